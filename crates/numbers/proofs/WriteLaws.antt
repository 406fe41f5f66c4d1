-- Writing bytes at an offset: group by group, and one thing after another. Assumes nothing.
use Prim.Native.Nat.{ℕ, suc, ◌+◌, ◌/◌, ◌%◌, ◌≤◌, ◌<◌}
use native.Mathlib.Omega.{arith}
use mathlib.Core.Path.{◌≡◌, refl, sym, ap, ◌∙◌, subst}
use mathlib.Core.List.{List, [], ◌∷◌, ◌++◌, append-nil}
use lib.ListN.{length, set, take, drop, length-append, take-append-drop}
use lib.Seq.{sets, length-sets}
use mathlib.Core.Bool.{Bool, true, false}
use lib.Dec.{leb}
use borrow.Author.Tests.{le-leb, lt-leb, leb-true, leb-false}
use native.Mathlib.Decide.{dec_le}
use Rattle.numbers.specs.Tests.{pick}
use Rattle.numbers.specs.Answers.{gives, refuses}
use Rattle.numbers.specs.SevenBit.{bytes_of, Stands, overwrite, Put, Written}
use Rattle.numbers.proofs.ByteLaws.{bytes_last, bytes_more}
use Rattle.numbers.proofs.PlaceLaws.{overwrite_sets, length_overwrite, overwrite_stands}

-- one group written, and the last one
pub write_more : (b : List ℕ) (i x : ℕ) → 128 ≤ x → sets b i (bytes_of x) ≡ sets (set b i (x % 128 + 128)) (i + 1) (bytes_of (x / 128))
write_more b i x h = ap (sets b i) (bytes_more x h) ∙ ap (λ k. sets (set b i (x % 128 + 128)) k (bytes_of (x / 128))) (omega arith)

pub write_last : (b : List ℕ) (i x : ℕ) → x < 128 → sets b i (bytes_of x) ≡ set b i x
write_last b i x h = ap (sets b i) (bytes_last x h)

-- what is still to be written from here is what was to be written at the start
pub record Remaining (before : List ℕ) (at : ℕ) (all bytes : List ℕ) (i : ℕ) (rest : List ℕ) : Type 0 where
  pub same : sets before at all ≡ sets bytes i rest
  pub ends : i + length rest ≡ at + length all
  pub long : length bytes ≡ length before

pub remaining_all : (before : List ℕ) (at : ℕ) (all : List ℕ) → Remaining before at all before at all
remaining_all before at all = record { same = refl; ends = refl; long = refl }

sets-append : (b : List ℕ) (i : ℕ) (x y : List ℕ) → sets b i (x ++ y) ≡ sets (sets b i x) (i + length x) y
sets-append b i [] y = ap (λ k. sets b k y) (omega arith)
sets-append b i (v ∷ x) y = sets-append (set b i v) (suc i) x y ∙ ap (λ k. sets (sets (set b i v) (suc i) x) k y) (omega arith)

module _ {before all bytes : List ℕ} {at i : ℕ} (room : at + length all ≤ length before) where
  pub remaining_fits : (x y : List ℕ) → Remaining before at all bytes i (x ++ y) → i + length x ≤ length bytes
  remaining_fits x y r = omega (arith, room, r.ends, r.long, length-append x y)

  pub remaining_put : {after : List ℕ} {e : ℕ} (x y : List ℕ) → Remaining before at all bytes i (x ++ y) → Put x i bytes e after → Remaining before at all after e y
  remaining_put {after} {e} x y r p = record { same = rw (written, p.ends) (r.same ∙ sets-append bytes i x y); ends = omega (arith, p.ends, r.ends, length-append x y); long = ap length written ∙ length-sets bytes i x ∙ r.long }
    where
      written : after ≡ sets bytes i x
      written = p.leaves ∙ overwrite_sets bytes i x (remaining_fits x y r)

  pub remaining_none : Remaining before at all bytes i [] → Put all at before i bytes
  remaining_none r = record { ends = omega (arith, r.ends); leaves = sym (overwrite_sets before at all room ∙ r.same) }

-- nothing put, and one thing put after another
pub put_none : (before : List ℕ) (at : ℕ) → Put [] at before at before
unfolding overwrite
put_none before at =
    let e : at + 0 ≡ at = omega arith in
    record { ends = omega arith; leaves = sym (ap (λ n. take at before ++ drop n before) e ∙ take-append-drop at before) }

module _ {x before middle : List ℕ} {at m : ℕ} (y : List ℕ) (room : at + length (x ++ y) ≤ length before) (p : Put x at before m middle) where
  behind : Remaining before at (x ++ y) middle m y
  behind = remaining_put room x y (remaining_all before at (x ++ y)) p

  pub put_room : m + length y ≤ length middle
  put_room = omega (arith, room, behind.ends, behind.long)

  pub put_then : {after : List ℕ} {e : ℕ} → Put y m middle e after → Put (x ++ y) at before e after
  put_then q = remaining_none room (remaining_put room y [] (subst (λ l. Remaining before at (x ++ y) middle m l) (sym (append-nil y)) behind) q)

pub put_length : {x before after : List ℕ} {at e : ℕ} → at + length x ≤ length before → Put x at before e after → length after ≡ length before
put_length {x} {before} {after} {at} room p = ap length p.leaves ∙ length_overwrite before at x room

-- what a test of the count of the bytes says of them
pub room : (new : List ℕ) (at len : ℕ) {n : ℕ} {t : Bool} → n ≡ length new → t ≡ leb (at + n) len → t ≡ true → at + length new ≤ len
room new at len {n} e f g = omega (arith, e, leb-true (at + n) len (sym f ∙ g))

pub no_room : (new : List ℕ) (at len : ℕ) {n : ℕ} {t : Bool} → n ≡ length new → t ≡ leb (at + n) len → t ≡ false → len < at + length new
no_room new at len {n} e f g = omega (arith, e, leb-false (at + n) len (sym f ∙ g))

-- what a write that fits and one that doesn't say
pub written_fits : {new before after : List ℕ} {at e : ℕ} → at + length new ≤ length before → e ≡ at + length new → after ≡ overwrite before at new → Written new at before (gives e) after
unfolding pick
written_fits {new} {before} {after} {at} {e} h p q = record { answers = rw (le-leb (at + length new) (length before) h) (ap gives p); leaves = rw (le-leb (at + length new) (length before) h) q }

pub written_not : {new before : List ℕ} {at : ℕ} → length before < at + length new → Written new at before (refuses 13) before
unfolding pick
written_not {new} {before} {at} h = record { answers = rw (lt-leb (at + length new) (length before) h); leaves = rw (lt-leb (at + length new) (length before) h) }

-- what was put stands there
pub put_stands : {new before after : List ℕ} {at e : ℕ} → at + length new ≤ length before → Put new at before e after → Stands after at new e
put_stands {new} {before} {after} {at} {e} h p =
    subst (λ l. Stands l at new e) (sym p.leaves) (subst (λ n. Stands (overwrite before at new) at new n) (sym p.ends) (overwrite_stands before at new h))

pub record Fitted (new before : List ℕ) (at e : ℕ) (after : List ℕ) : Type 0 where
  pub room : at + length new ≤ length before
  pub put : Put new at before e after

pub fitted : {new before after : List ℕ} {at e : ℕ} → Written new at before (gives e) after → Fitted new before at e after
unfolding pick
fitted {new} {before} {after} {at} {e} w = go (dec_le (at + length new) (length before))
  where
    go : Dec (at + length new ≤ length before) → Fitted new before at e after
    go (yes h) =
        let p : gives e ≡ gives (at + length new) = rw (le-leb (at + length new) (length before) h) at w.answers in
        record { room = h; put = record { ends = cc; leaves = rw (le-leb (at + length new) (length before) h) at w.leaves } }
    go (no h) =
        let p : gives e ≡ refuses 13 = rw (lt-leb (at + length new) (length before) (omega arith)) at w.answers in
        absurd (let z : ◌≡◌ {A = ℕ} 0 1 = cc in omega arith)

-- what was written stands there
pub written_stands : {new before after : List ℕ} {at e : ℕ} → Written new at before (gives e) after → Stands after at new e
written_stands w = let f = fitted w in put_stands f.room f.put
