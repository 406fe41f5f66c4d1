-- Laws of stamps seen before, and of the buckets by which they are looked up. Assumes nothing.
use Prim.Native.Nat.{ℕ, zero, suc, ◌+◌, ◌-◌, ◌≤◌, ◌<◌, zero-le}
use native.Mathlib.Nat.{not-suc-le-zero}
use native.Mathlib.Omega.{arith}
use native.Mathlib.Numerals.{add-one}
use mathlib.Core.Path.{◌≡◌, refl, sym, ap, ◌∙◌, subst}
use mathlib.Core.Bool.{Bool, true, false, not, ◌||◌}
use mathlib.Core.List.{List}
use lib.Dec.{T, eqb, eqb→eq}
use lib.ListN.{length, get_or, set, replicate, get_or-replicate}
use lib.Seq.{get_or-set_same, get_or-set_other}
use borrow.Author.Tests.{eq-eqb, ne_eqb}
use Rattle.numbers.proofs.TestLaws.{by_test, neqb, eq→T}
use Rattle.book.specs.rules.Words.{word}
use Rattle.book.specs.steps.RecordWalk.{stamp_at, stamp_seen, bucket_of, last_in, Linked, id_before}
use Rattle.numbers.proofs.TabulateLaws.{by_order}

pub unseen_T : (w : List ℕ) (s n : ℕ) → T (not (stamp_seen w s n)) → (j : ℕ) → j < n → stamp_at w j ≡ s → ⊥
unfolding stamp_seen
unseen_T w s zero t j h e = not-suc-le-zero h
unseen_T w s (suc n) t j h e = by_order j n (λ l. unseen_T w s n (both (eqb (stamp_at w n) s) t).1 j l e) (λ l. (both (eqb (stamp_at w n) s) t).0 (same (omega arith)))
  where
    both : (a : Bool) → T (not (a || stamp_seen w s n)) → (T a → ⊥) × T (not (stamp_seen w s n))
    both true t = absurd t
    both false t = ((λ x. x), t)

    same : j ≡ n → T (eqb (stamp_at w n) s)
    same q = subst (λ (k : ℕ). T (eqb (stamp_at w k) s)) q (eq→T e)

pub T-unseen : (w : List ℕ) (s n : ℕ) → ((j : ℕ) → j < n → stamp_at w j ≡ s → ⊥) → T (not (stamp_seen w s n))
unfolding stamp_seen
T-unseen w s zero h = tt
T-unseen w s (suc n) h = rw (ne_eqb (stamp_at w n) s (h n (omega arith))) (T-unseen w s n (λ j l. h j (omega arith)))

-- the last place in a bucket

pub last_in_le : (w : List ℕ) (b n : ℕ) → last_in w b n ≤ n
unfolding last_in
last_in_le w b zero = zero-le
last_in_le w b (suc n) = by_test (λ (x : ℕ). x ≤ suc n) _ (λ t. omega arith) (λ t. omega (arith, last_in_le w b n))

last_in_bucket : (w : List ℕ) (b n : ℕ) → 0 < last_in w b n → bucket_of (stamp_at w (last_in w b n - 1)) ≡ b
unfolding last_in
last_in_bucket w b zero h = absurd (not-suc-le-zero h)
last_in_bucket w b (suc n) h =
    by_test (λ (x : ℕ). 0 < x → bucket_of (stamp_at w (x - 1)) ≡ b) _ (λ t l. subst (λ (k : ℕ). bucket_of (stamp_at w k) ≡ b) {x = n} (omega arith) (eqb→eq _ _ t)) (λ t l. last_in_bucket w b n l) h

-- a stamp that was seen is that of the last place in its bucket, or of one before it
seen_last : (w : List ℕ) (s n : ℕ) → stamp_seen w s n ≡ stamp_seen w s (last_in w (bucket_of s) n)
unfolding stamp_seen last_in
seen_last w s zero = refl
seen_last w s (suc n) =
    by_test (λ (x : ℕ). (eqb (stamp_at w n) s || stamp_seen w s n) ≡ stamp_seen w s x) _ (λ t. refl) (λ t. rw (ne_eqb (stamp_at w n) s (λ e. neqb (bucket_of (stamp_at w n)) (bucket_of s) t (ap bucket_of e))) (seen_last w s n))

-- along a chain

-- whether the stamp s was seen among n places is whether it was among the first at, the last of which is in its bucket
pub record ChainAt (w : List ℕ) (s n at : ℕ) : Type 0 where
  pub same : stamp_seen w s n ≡ stamp_seen w s at
  pub inside : at ≤ n
  pub bucket : 0 < at → bucket_of (stamp_at w (at - 1)) ≡ bucket_of s

pub chain_start : (w : List ℕ) (s n at : ℕ) → at ≡ last_in w (bucket_of s) n → ChainAt w s n at
chain_start w s n at e =
    record {
      same = seen_last w s n ∙ ap (stamp_seen w s) (sym e);
      inside = omega (arith, last_in_le w (bucket_of s) n);
      bucket = λ h. ap (λ (x : ℕ). bucket_of (stamp_at w (x - 1))) e ∙ last_in_bucket w (bucket_of s) n (omega arith);
    }

seen_at : (w : List ℕ) (s at : ℕ) → 0 < at → stamp_seen w s at ≡ (eqb (stamp_at w (at - 1)) s || stamp_seen w s (at - 1))
unfolding stamp_seen
seen_at w s at h = let e : at ≡ suc (at - 1) = omega arith in ap (stamp_seen w s) e

module _ {w : List ℕ} {s n at : ℕ} (c : ChainAt w s n at) (h : 0 < at) where
  pub chain_hit : stamp_at w (at - 1) ≡ s → stamp_seen w s n ≡ true
  chain_hit e = c.same ∙ seen_at w s at h ∙ rw (eq-eqb (stamp_at w (at - 1)) s e)

  pub chain_next : (links : List ℕ) → Linked w links n → (stamp_at w (at - 1) ≡ s → ⊥) → ChainAt w s n (get_or links (at - 1) 0)
  chain_next links k ne =
      let next : get_or links (at - 1) 0 ≡ last_in w (bucket_of s) (at - 1) = k (at - 1) (omega (arith, c.inside)) ∙ ap (λ (b : ℕ). last_in w b (at - 1)) (c.bucket h) in
      let r : ChainAt w s (at - 1) (get_or links (at - 1) 0) = chain_start w s (at - 1) _ next in
      record {
        same = c.same ∙ seen_at w s at h ∙ rw (ne_eqb (stamp_at w (at - 1)) s ne) r.same;
        inside = omega (arith, r.inside, c.inside);
        bucket = r.bucket;
      }

  pub chain_shorter : (links : List ℕ) → Linked w links n → get_or links (at - 1) 0 < at
  chain_shorter links k =
      omega (arith, k (at - 1) (omega (arith, c.inside)), last_in_le w (bucket_of (stamp_at w (at - 1))) (at - 1))

pub chain_end : {w : List ℕ} {s n at : ℕ} → ChainAt w s n at → at ≤ 0 → stamp_seen w s n ≡ false
unfolding stamp_seen
chain_end {w} {s} {n} {at} c h = let e : at ≡ 0 = omega arith in c.same ∙ ap (stamp_seen w s) e

-- the heads and links after n places

pub record Chains (w heads links : List ℕ) (n : ℕ) : Type 0 where
  pub lasts : (b : ℕ) → b < 512 → get_or heads b 0 ≡ last_in w b n
  pub linked : Linked w links n

pub chains_start : (w links : List ℕ) → Chains w (replicate 512 0) links 0
unfolding last_in
chains_start w links =
    record { lasts = λ b h. get_or-replicate 512 b 0 0 h; linked = λ j h. absurd (not-suc-le-zero h) }

pub chains_more : (w heads links : List ℕ) (n s b last : ℕ) → Chains w heads links n → s ≡ stamp_at w n → b ≡ bucket_of s → last ≡ get_or heads b 0 → b < length heads → n < length links → length heads ≡ 512 → Chains w (set heads b (n + 1)) (set links n last) (n + 1)
unfolding last_in
chains_more w heads links n s b last c es eb el hb hn h512 =
    let e : bucket_of (stamp_at w n) ≡ b = ap bucket_of (sym es) ∙ sym eb in
    record {
      lasts =
          λ q hq. rw add-one (by_test (λ (x : ℕ). get_or (set heads b (suc n)) q 0 ≡ x) (eqb (bucket_of (stamp_at w n)) q) (λ t. let z : q ≡ b = sym (eqb→eq _ _ t) ∙ e in rw z (get_or-set_same heads b (suc n) 0 hb)) (λ t. get_or-set_other heads b q (suc n) 0 (λ z. neqb (bucket_of (stamp_at w n)) q t (e ∙ sym z)) ∙ c.lasts q hq));
      linked =
          λ j hj. by_order j n (λ l. get_or-set_other links n j last 0 (λ z. omega arith) ∙ c.linked j l) (λ l. let z : j ≡ n = omega arith in rw z (get_or-set_same links n last 0 hn ∙ el ∙ c.lasts b (omega arith) ∙ ap (λ (x : ℕ). last_in w x n) (sym e)));
    }

pub id_before_next : (w : List ℕ) (i : ℕ) → word w i 0 ≡ id_before w (i + 1)
id_before_next w i = rw add-one refl
