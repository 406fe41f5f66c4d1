-- The conditions of refusal 16 on one order, as facts. Assumes nothing.
use Prim.Native.Nat.{ℕ, ◌≤◌}
use native.Mathlib.Omega.{arith}
use mathlib.Core.Path.{◌≡◌}
use mathlib.Core.Bool.{Bool, true, false, not, ◌&&◌}
use mathlib.Core.Logic.{◌⊎◌, inl, inr}
use lib.Dec.{T, eqb, leb→le, le→leb, eqb→eq, T_not}
use Rattle.numbers.proofs.TestLaws.{and_T, T_and, or_T, Each, conj_T, T-conj, eq→T, tests}
use Rattle.prices.specs.Prices.{legal, is_bid}
use Rattle.book.specs.declared.Order.{Order}
use Rattle.book.specs.rules.Orders.{reduced}
use Rattle.book.specs.rules.Sound.{most_shares, most_owner, slide_allowed, market_allowed, order_conditions, sound_order}

-- what an order has from its entry on
abbrev pub FieldsSound : ℕ → Order → Type 0
FieldsSound step o =
    record {
      mark : o.mark ≤ 3;
      limit : T (legal step o.limit);
      show : o.show ≤ 1;
      life : o.life ≤ 1;
      slide : T (slide_allowed o.mark o.slide);
      entry_bid : T (is_bid step o.entry_bid);
      market : T (market_allowed o.market o.mark o.limit);
      owner : o.owner ≤ most_owner;
    }

-- an order that may work, and one that may rest, at a step; n is the last id and s the last stamp
abbrev pub MayWork : ℕ → ℕ → ℕ → Order → Type 0
MayWork step n s o =
    record {
      fields : FieldsSound step o;
      id : o.id ≤ n;
      first : 1 ≤ o.stamp;
      last : o.stamp ≤ s;
      price : T (legal step o.price);
      most : o.shares ≤ most_shares;
    }

abbrev pub MayRest : ℕ → ℕ → ℕ → Order → Type 0
MayRest step n s o = record { works : MayWork step n s o; least : 1 ≤ o.shares; day : o.life ≡ 0 }

-- an order that is said to be a market short is a short with limit 1
pub market_short : (step : ℕ) (o : Order) → T o.market → FieldsSound step o → (o.mark ≡ 2) × (o.limit ≡ 1)
market_short step o t f = go (or_T (not o.market) (eqb o.mark 2 && eqb o.limit 1) f.market)
  where
    go : T (not o.market) ⊎ T (eqb o.mark 2 && eqb o.limit 1) → (o.mark ≡ 2) × (o.limit ≡ 1)
    go (inl x) = absurd (T_not o.market x t)
    go (inr x) = let y = and_T (eqb o.mark 2) (eqb o.limit 1) x in (eqb→eq o.mark 2 y.0, eqb→eq o.limit 1 y.1)

pub market_allowed_lem : (market : Bool) (mark limit : ℕ) → (T market → (mark ≡ 2) × (limit ≡ 1)) → T (market_allowed market mark limit)
market_allowed_lem true mark limit h = let k = h tt in T_and (eqb mark 2) _ (eq→T k.0) (eq→T k.1)
market_allowed_lem false mark limit h = tt

-- the order with q shares less
pub may_work_reduced : (step n s q : ℕ) (o : Order) → MayWork step n s o → MayWork step n s (reduced q o)
may_work_reduced step n s q o h =
    record { fields = h.fields; id = h.id; first = h.first; last = h.last; price = h.price; most = omega (arith, h.most) }

-- the same order under a later id and stamp
pub may_rest_later : (step n s m r : ℕ) → n ≤ m → s ≤ r → (o : Order) → MayRest step n s o → MayRest step m r o
may_rest_later step n s m r l k o h =
    let w = h.works in
    record {
      works = record { fields = w.fields; id = omega (arith, w.id); first = w.first; last = omega (arith, w.last); price = w.price; most = w.most };
      least = h.least;
      day = h.day;
    }

pub order_may_rest : (step n s : ℕ) (o : Order) → T (sound_order step n s o) → MayRest step n s o
unfolding sound_order
order_may_rest step n s o t = go (conj_T (order_conditions step n s o) t)
  where
    go : Each (order_conditions step n s o) → MayRest step n s o
    go (id, (mark, (limit, (least, (most, (show, (life, (slide, (first, (last, (price, (entry_bid, (market, (owner, end)))))))))))))) =
        record {
          works =
              record {
                fields = record { mark = leb→le _ _ mark; limit = limit; show = leb→le _ _ show; life = omega tests; slide = slide; entry_bid = entry_bid; market = market; owner = leb→le _ _ owner };
                id = leb→le _ _ id;
                first = leb→le _ _ first;
                last = leb→le _ _ last;
                price = price;
                most = leb→le _ _ most;
              };
          least = leb→le _ _ least;
          day = eqb→eq _ _ life;
        }

pub may_rest_order : (step n s : ℕ) (o : Order) → MayRest step n s o → T (sound_order step n s o)
unfolding sound_order
may_rest_order step n s o h =
    let w = h.works in
    let f = w.fields in
    T-conj (order_conditions step n s o) (le→leb _ _ w.id, (le→leb _ _ f.mark, (f.limit, (le→leb _ _ h.least, (le→leb _ _ w.most, (le→leb _ _ f.show, (eq→T h.day, (f.slide, (le→leb _ _ w.first, (le→leb _ _ w.last, (w.price, (f.entry_bid, (f.market, (le→leb _ _ f.owner, tt))))))))))))))
