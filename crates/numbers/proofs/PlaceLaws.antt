-- Bytes that stand at an offset: one thing after another, and what overwriting does. Assumes nothing.
use Prim.Native.Nat.{ℕ, ◌+◌, ◌≤◌}
use native.Mathlib.Omega.{arith}
use mathlib.Core.Path.{◌≡◌, refl, sym, ap, ◌∙◌}
use mathlib.Core.List.{List, [], ◌++◌, append_assoc}
use lib.ListN.{length, take, drop, length-append, take-append-drop}
use lib.Seq.{sets, sets-eq, length-sets, length-take-le, take_at, drop_at, drop-drop, drop-append_seam, drop-append-le}
use Rattle.numbers.specs.SevenBit.{overwrite, Stands}

-- at the front of a list
pub stands_first : (new behind : List ℕ) → Stands (new ++ behind) 0 new (length new)
stands_first new behind =
    record { ends = omega arith; inside = omega (arith, length-append new behind); there = ap (λ l. new ++ l) (sym (drop-append_seam new behind)) }

-- nothing stands anywhere
pub stands_none : (bytes : List ℕ) (at : ℕ) → at ≤ length bytes → Stands bytes at [] at
stands_none bytes at h = record { ends = omega arith; inside = h; there = refl }

-- one thing, and another behind it
pub stands_then : {bytes x y : List ℕ} {at m e : ℕ} → Stands bytes at x m → Stands bytes m y e → Stands bytes at (x ++ y) e
stands_then {bytes} {x} {y} {at} {m} {e} s t =
    record {
      ends = omega (arith, s.ends, t.ends, length-append x y);
      inside = t.inside;
      there = s.there ∙ ap (λ l. x ++ l) t.there ∙ sym (append_assoc x y (drop e bytes));
    }

-- of two things, what stands behind the first, and both apart
rest_there : {bytes : List ℕ} {at e : ℕ} (x y : List ℕ) → Stands bytes at (x ++ y) e → drop (at + length x) bytes ≡ y ++ drop e bytes
rest_there {bytes} {at} {e} x y s =
    sym (drop-drop (length x) at bytes) ∙ ap (drop (length x)) (s.there ∙ append_assoc x y (drop e bytes)) ∙ drop-append_seam x (y ++ drop e bytes)

pub stands_front : {bytes : List ℕ} {at e : ℕ} (x y : List ℕ) → Stands bytes at (x ++ y) e → Stands bytes at x (at + length x)
stands_front {bytes} {at} {e} x y s =
    record {
      ends = refl;
      inside = omega (arith, s.ends, s.inside, length-append x y);
      there = s.there ∙ append_assoc x y (drop e bytes) ∙ ap (λ l. x ++ l) (sym (rest_there x y s));
    }

pub stands_behind : {bytes : List ℕ} {at e : ℕ} (x y : List ℕ) → Stands bytes at (x ++ y) e → Stands bytes (at + length x) y e
stands_behind x y s = record { ends = omega (arith, s.ends, length-append x y); inside = s.inside; there = rest_there x y s }

-- writing again what stands there changes nothing
pub stands_same : {bytes new : List ℕ} {at e : ℕ} → Stands bytes at new e → overwrite bytes at new ≡ bytes
unfolding overwrite
stands_same {bytes} {new} {at} {e} s =
    ap (λ n. take at bytes ++ (new ++ drop n bytes)) (sym s.ends) ∙ ap (λ l. take at bytes ++ l) (sym s.there) ∙ take-append-drop at bytes

-- where there is room, overwriting is setting byte by byte
pub overwrite_sets : (bytes : List ℕ) (at : ℕ) (new : List ℕ) → at + length new ≤ length bytes → overwrite bytes at new ≡ sets bytes at new
unfolding overwrite
overwrite_sets bytes at new h = sym (sets-eq new bytes at h ∙ append_assoc (take at bytes) new (drop (at + length new) bytes))

pub length_overwrite : (bytes : List ℕ) (at : ℕ) (new : List ℕ) → at + length new ≤ length bytes → length (overwrite bytes at new) ≡ length bytes
length_overwrite bytes at new h = ap length (overwrite_sets bytes at new h) ∙ length-sets bytes at new

-- what was written stands there
pub overwrite_stands : (bytes : List ℕ) (at : ℕ) (new : List ℕ) → at + length new ≤ length bytes → Stands (overwrite bytes at new) at new (at + length new)
unfolding overwrite
overwrite_stands bytes at new h =
    record { ends = refl; inside = omega (arith, length_overwrite bytes at new h); there = front ∙ ap (λ l. new ++ l) (sym behind) }
  where
    rest : List ℕ
    rest = drop (at + length new) bytes

    front : drop at (take at bytes ++ (new ++ rest)) ≡ new ++ rest
    front = drop_at (take at bytes) (new ++ rest) at (length-take-le at bytes (omega arith))

    behind : drop (at + length new) (take at bytes ++ (new ++ rest)) ≡ rest
    behind = sym (drop-drop (length new) at (take at bytes ++ (new ++ rest))) ∙ ap (drop (length new)) front ∙ drop-append_seam new rest

-- bytes behind bytes

pub overwrite_then : (b x y : List ℕ) (at : ℕ) → at ≤ length b → overwrite (overwrite b at x) (at + length x) y ≡ overwrite b at (x ++ y)
unfolding overwrite
overwrite_then b x y at h =
    let m : ℕ = at + length x in
    let front : List ℕ = take at b ++ x in
    let l : length front ≡ m = length-append (take at b) x ∙ ap (λ (k : ℕ). k + length x) (length-take-le at b h) in
    let whole : take at b ++ (x ++ drop m b) ≡ front ++ drop m b = sym (append_assoc (take at b) x (drop m b)) in
    let k : m + length y ≡ at + length (x ++ y) = omega (arith, length-append x y) in
    let back : drop (m + length y) (take at b ++ (x ++ drop m b)) ≡ drop (at + length (x ++ y)) b =
    sym (drop-drop (length y) m (take at b ++ (x ++ drop m b))) ∙ ap (drop (length y)) (ap (drop m) whole ∙ drop_at front (drop m b) m l) ∙ drop-drop (length y) m b ∙ ap (λ (j : ℕ). drop j b) k in
    ap (λ (z : List ℕ). z ++ (y ++ drop (m + length y) (take at b ++ (x ++ drop m b)))) (ap (take m) whole ∙ take_at front (drop m b) m l)
    ∙ ap (λ (z : List ℕ). front ++ (y ++ z)) back
    ∙ append_assoc (take at b) x (y ++ drop (at + length (x ++ y)) b)
    ∙ ap (λ (z : List ℕ). take at b ++ z) (sym (append_assoc x y (drop (at + length (x ++ y)) b)))

pub overwrite_long : (b x : List ℕ) (at : ℕ) → at ≤ length b → at + length x ≤ length (overwrite b at x)
unfolding overwrite
overwrite_long b x at h =
    omega (arith, length-append (take at b) (x ++ drop (at + length x) b), length-take-le at b h, length-append x (drop (at + length x) b))

-- more bytes behind them
pub stands_longer : {b new : List ℕ} {at end : ℕ} (behind : List ℕ) → Stands b at new end → Stands (b ++ behind) at new end
stands_longer {b} {new} {at} {end} behind s =
    record {
      ends = s.ends;
      inside = omega (arith, s.inside, length-append b behind);
      there = drop-append-le at b behind (omega (arith, s.ends, s.inside)) ∙ ap (λ (l : List ℕ). l ++ behind) s.there ∙ append_assoc new (drop end b) behind ∙ ap (λ (l : List ℕ). new ++ l) (sym (drop-append-le end b behind s.inside));
    }
