-- Laws of the record walk: what is known after some places, and what it answers. Assumes nothing.
use Prim.Native.Nat.{ℕ, ◌+◌, ◌≤◌, ◌<◌, zero-le}
use native.Mathlib.Nat.{not-suc-le-zero}
use native.Mathlib.Omega.{arith}
use mathlib.Core.Path.{◌≡◌, refl, ◌∙◌, subst}
use mathlib.Core.Bool.{Bool, true, false, not}
use mathlib.Core.List.{List}
use lib.Dec.{T, T_not}
use lib.ListN.{length, get_or, set, length-set, replicate, length-replicate}
use Rattle.book.specs.rules.Words.{header_laid_out, sound_book}
use Rattle.book.specs.steps.RecordWalk.{stamp_at, stamp_seen, bucket_of, sound_at}
use Rattle.numbers.proofs.TabulateLaws.{by_order}
use Rattle.book.proofs.refinement.WordLaws.{HeaderLaidOut, header_laid_out_facts, facts_header_laid_out}
use Rattle.book.proofs.refinement.StampLaws.{Chains, chains_start, chains_more}
use Rattle.book.proofs.refinement.SoundBookLaws.{sound_book_places, places_sound_book}

pub record Walked (step last_id last_stamp : ℕ) (w heads links : List ℕ) (i : ℕ) : Type 0 where
  pub header : HeaderLaidOut w
  pub inside : i ≤ get_or w 0 0
  pub head_count : length heads ≡ 512
  pub link_count : length links ≡ 256
  pub chains : Chains w heads links i
  pub sound : (j : ℕ) → j < i → T (sound_at step last_id last_stamp w j)
  pub unseen : (j : ℕ) → j < i → T (not (stamp_seen w (stamp_at w j) j))

yes_T : {b : Bool} → b ≡ true → T b
yes_T e = rw e tt

no_T : {b : Bool} → b ≡ false → T (not b)
no_T e = rw e tt

yes : (b : Bool) → T b → true ≡ b
yes true t = refl
yes false t = absurd t

no : (b : Bool) → (T b → ⊥) → false ≡ b
no true f = absurd (f tt)
no false f = refl

module _ (step last_id last_stamp : ℕ) (w : List ℕ) where
  pub walked_start : header_laid_out w ≡ true → Walked step last_id last_stamp w (replicate 512 0) (replicate 256 0) 0
  walked_start e =
      record {
        header = header_laid_out_facts w (yes_T e);
        inside = zero-le;
        head_count = length-replicate {A = ℕ} 512 0;
        link_count = length-replicate {A = ℕ} 256 0;
        chains = chains_start w (replicate 256 0);
        sound = λ j h. absurd (not-suc-le-zero h);
        unseen = λ j h. absurd (not-suc-le-zero h);
      }

  pub walked_more : {heads links : List ℕ} {i : ℕ} (s b last : ℕ) → Walked step last_id last_stamp w heads links i → i < get_or w 0 0 → s ≡ stamp_at w i → b ≡ bucket_of s → last ≡ get_or heads b 0 → sound_at step last_id last_stamp w i ≡ true → stamp_seen w s i ≡ false → Walked step last_id last_stamp w (set heads b (i + 1)) (set links i last) (i + 1)
  walked_more {heads} {links} {i} s b last k h es eb el t u =
      record {
        header = k.header;
        inside = omega arith;
        head_count = length-set heads b (i + 1) ∙ k.head_count;
        link_count = length-set links i last ∙ k.link_count;
        chains = chains_more w heads links i s b last k.chains es eb el (omega (arith, k.head_count)) (omega (arith, k.link_count, k.header.few)) k.head_count;
        sound = λ j l. by_order j i (k.sound j) (λ m. subst (λ (x : ℕ). T (sound_at step last_id last_stamp w x)) {x = i} (omega arith) (yes_T t));
        unseen =
            λ j l. by_order j i (k.unseen j) (λ m. subst (λ (x : ℕ). T (not (stamp_seen w (stamp_at w x) x))) {x = i} (omega arith) (no_T (subst (λ (x : ℕ). stamp_seen w x i ≡ false) es u)));
      }

  pub walked_all : {heads links : List ℕ} {i : ℕ} → Walked step last_id last_stamp w heads links i → get_or w 0 0 ≤ i → true ≡ sound_book step last_id last_stamp w
  walked_all k h =
      yes _ (places_sound_book step last_id last_stamp w (record { header = k.header; sound = λ j l. k.sound j (omega arith); unseen = λ j l. k.unseen j (omega arith) }))

  -- what is no sound book

  pub not_laid_out : header_laid_out w ≡ false → false ≡ sound_book step last_id last_stamp w
  not_laid_out e = no _ (λ t. T_not (header_laid_out w) (no_T e) (facts_header_laid_out w (sound_book_places step last_id last_stamp w t).header))

  pub unsound_place : (i : ℕ) → i < get_or w 0 0 → sound_at step last_id last_stamp w i ≡ false → false ≡ sound_book step last_id last_stamp w
  unsound_place i h e = no _ (λ t. T_not (sound_at step last_id last_stamp w i) (no_T e) ((sound_book_places step last_id last_stamp w t).sound i h))

  pub seen_stamp : (i s : ℕ) → i < get_or w 0 0 → s ≡ stamp_at w i → stamp_seen w s i ≡ true → false ≡ sound_book step last_id last_stamp w
  seen_stamp i s h es e =
      no _ (λ t. T_not (stamp_seen w (stamp_at w i) i) ((sound_book_places step last_id last_stamp w t).unseen i h) (yes_T (subst (λ (x : ℕ). stamp_seen w x i ≡ true) es e)))
