-- Reading the fields of a record one by one: what each step says of the definitions. Assumes nothing.
use Prim.Native.Nat.{ℕ, zero, suc, ◌+◌, ◌-◌, ◌≤◌, ◌<◌}
use native.Mathlib.Omega.{arith}
use native.Mathlib.Numerals.{add-one}
use mathlib.Core.Path.{◌≡◌, refl, sym, ap, ◌∙◌}
use mathlib.Core.Bool.{Bool, true, false}
use mathlib.Core.List.{List, [], ◌∷◌, ◌++◌}
use lib.Dec.{leb}
use lib.ListN.{length, get_or, take, set, length-set}
use lib.Seq.{take-suc-set, take_all}
use borrow.Author.Tests.{le-leb, lt-leb, ne_eqb}
use Rattle.numbers.specs.Tests.{pick, All}
use Rattle.numbers.specs.Answers.{Outcome, gives, refuses, Read}
use Rattle.numbers.specs.SevenBit.{IsByte, number_at}
use Rattle.numbers.proofs.ReadLaws.{number, all_bytes}
use Rattle.engine.specs.declared.Event.{Event}
use Rattle.std.specs.Prelude.{◌≢◌, Result, Ok, Err}
use Rattle.std.proofs.Math.Option.{none}
use Rattle.engine.specs.rules.Records.{record_numbers, highest_field, on_field, by_field, fields_at, record_fields, event_of, record_at}
use Rattle.engine.specs.claims.RoundTrips.{Word}
use Rattle.records.specs.declared.ReadRefusal.{ReadRefusal}
use Rattle.records.specs.declared.EventAt.{EventAt}
use Rattle.records.specs.RecordAnswers.{EventFrom, MadeFrom, event_from, outcome_of_record_read}
use Rattle.engine.proofs.bytes.RecordLaws.{fields, given, not_given, record_unique, record_positive}

-- a field by its number

pub field_refused : (bytes : List ℕ) (at : ℕ) {n : ℕ} → number_at bytes at ≡ refuses n → fields_at 1 bytes at ≡ refuses n
unfolding fields_at by_field
field_refused bytes at e = rw e

pub field_above : (bytes : List ℕ) (at : ℕ) {x e : ℕ} → number_at bytes at ≡ number x e → highest_field < x → fields_at 1 bytes at ≡ refuses 12
unfolding fields_at by_field pick
field_above bytes at {x = x} e h = rw (e, lt-leb x highest_field h)

pub field_given : (bytes : List ℕ) (at : ℕ) {x e : ℕ} → number_at bytes at ≡ number x e → x ≤ highest_field → fields_at 1 bytes at ≡ fields (x ∷ []) e
unfolding fields_at by_field pick
field_given bytes at {x = x} e h = rw (e, le-leb x highest_field h)

-- more fields by the first

pub first_refused : (bytes : List ℕ) (at : ℕ) {n : ℕ} (m : ℕ) → fields_at 1 bytes at ≡ refuses n → fields_at (suc m) bytes at ≡ refuses n
unfolding fields_at by_field pick
first_refused bytes at {n} m e = go (number_at bytes at) e
  where
    go : (o : Outcome (Read ℕ)) → by_field (fields_at 0 bytes) o ≡ refuses n → by_field (fields_at m bytes) o ≡ refuses n
    go (refuses k) e = e
    go (gives x) e = by_size (leb x.value highest_field) e
      where
        by_size : (t : Bool) → pick t (fields (x.value ∷ []) x.end) (refuses 12) ≡ refuses n → pick t (on_field x.value (fields_at m bytes x.end)) (refuses 12) ≡ refuses n
        by_size true e = absurd (not_given (sym e))
        by_size false e = e

pub first_given : (bytes : List ℕ) (at : ℕ) {x e : ℕ} (m : ℕ) → fields_at 1 bytes at ≡ fields (x ∷ []) e → fields_at (suc m) bytes at ≡ on_field x (fields_at m bytes e)
unfolding fields_at by_field pick
first_given bytes at {x} {e} m h = go (number_at bytes at) h
  where
    go : (o : Outcome (Read ℕ)) → by_field (fields_at 0 bytes) o ≡ fields (x ∷ []) e → by_field (fields_at m bytes) o ≡ on_field x (fields_at m bytes e)
    go (refuses k) h = absurd (not_given h)
    go (gives y) h = by_size (leb y.value highest_field) h
      where
        by_size : (t : Bool) → pick t (fields (y.value ∷ []) y.end) (refuses 12) ≡ fields (x ∷ []) e → pick t (on_field y.value (fields_at m bytes y.end)) (refuses 12) ≡ on_field x (fields_at m bytes e)
        by_size true h =
            let p : y.value ≡ x = ap (λ (r : Read (List ℕ)). get_or r.value 0 0) (given h) in
            let q : y.end ≡ e = ap (λ (r : Read (List ℕ)). r.end) (given h) in
            rw (p, q)
        by_size false h = absurd (not_given h)

-- The loop of `read_fields`

-- fields in front of those that are still to be read
abbrev pub in_front : List ℕ → Outcome (Read (List ℕ)) → Outcome (Read (List ℕ))
in_front [] o = o
in_front (x ∷ xs) o = on_field x (in_front xs o)

-- of n fields from an offset on, i were read, up to end
pub record FieldsSoFar (bytes : List ℕ) (at n : ℕ) (xs : List ℕ) (i end : ℕ) : Type 0 where
  pub long : length xs ≡ n
  pub few : i ≤ n
  pub rest : fields_at n bytes at ≡ in_front (take i xs) (fields_at (n - i) bytes end)

in_front_one : (xs : List ℕ) (x : ℕ) (o : Outcome (Read (List ℕ))) → in_front (xs ++ (x ∷ [])) o ≡ in_front xs (on_field x o)
in_front_one [] x o = refl
in_front_one (y ∷ xs) x o = ap (on_field y) (in_front_one xs x o)

in_front_refused : (xs : List ℕ) (n : ℕ) → in_front xs (refuses n) ≡ refuses n
in_front_refused [] n = refl
in_front_refused (x ∷ xs) n = ap (on_field x) (in_front_refused xs n)

in_front_all : (xs : List ℕ) (e : ℕ) → in_front xs (fields [] e) ≡ fields xs e
in_front_all [] e = refl
in_front_all (x ∷ xs) e = ap (on_field x) (in_front_all xs e)

pub none_so_far : (bytes : List ℕ) (at n : ℕ) (xs : List ℕ) → length xs ≡ n → FieldsSoFar bytes at n xs 0 at
none_so_far bytes at n xs long = record { long = long; few = omega arith; rest = ap (λ m. fields_at m bytes at) (omega arith) }

module _ {bytes xs : List ℕ} {at n i end : ℕ} (h : FieldsSoFar bytes at n xs i end) where
  pub one_refused : {k : ℕ} → i < n → fields_at 1 bytes end ≡ refuses k → fields_at n bytes at ≡ refuses k
  one_refused {k} l e =
      let m : n - i ≡ suc (n - suc i) = omega arith in
      h.rest ∙ ap (in_front (take i xs)) (ap (λ j. fields_at j bytes end) m ∙ first_refused bytes end (n - suc i) e) ∙ in_front_refused (take i xs) k

  pub one_so_far : {x e : ℕ} → i < n → fields_at 1 bytes end ≡ fields (x ∷ []) e → FieldsSoFar bytes at n (set xs i x) (i + 1) e
  one_so_far {x} {e} l f =
      let m : n - i ≡ suc (n - suc i) = omega arith in
      record {
        long = length-set xs i x ∙ h.long;
        few = omega arith;
        rest = rw (add-one, take-suc-set xs i x (omega (arith, h.long))) (h.rest ∙ ap (in_front (take i xs)) (ap (λ j. fields_at j bytes end) m ∙ first_given bytes end (n - suc i) f) ∙ sym (in_front_one (take i xs) x (fields_at (n - suc i) bytes e)));
      }

  pub all_so_far : n ≤ i → fields_at n bytes at ≡ fields xs end
  unfolding fields_at
  all_so_far l =
      let z : n - i ≡ 0 = omega arith in
      h.rest ∙ ap (λ j. in_front (take i xs) (fields_at j bytes end)) z ∙ in_front_all (take i xs) end ∙ ap (λ l. fields l end) (take_all i xs (omega (arith, h.long)))

-- The event of the fields that were read

pub unknown_kind : (k : ℕ) → (k ≢ 0 → 7 < k) → record_fields k ≡ none
unfolding record_fields pick
unknown_kind zero h = refl
unknown_kind (suc i) h =
    rw (ne_eqb (suc i) 1 (λ e. omega arith), ne_eqb (suc i) 6 (λ e. omega arith), ne_eqb (suc i) 7 (λ e. omega arith), le-leb 2 (suc i) (omega arith), lt-leb (suc i) 5 (omega arith))

-- of a kind of one field
pub single_read : {Made : ℕ → Event → Type 0} {o : Outcome (Read (List ℕ))} {r : Result EventAt ReadRefusal} (k : ℕ) → EventFrom Made o r → ((xs : List ℕ) (e : Event) → Made (get_or xs 0 0) e → e ≡ event_of (record { kind = k; fields = xs })) → outcome_of_record_read r ≡ event_from k o
single_read {Made} {o} {r} k h made = go o r h.made
  where
    go : (o : Outcome (Read (List ℕ))) (r : Result EventAt ReadRefusal) → MadeFrom Made o r → outcome_of_record_read r ≡ event_from k o
    go (gives y) (Ok x) h = rw (made y.value x.event h.0, h.1)
    go (gives y) (Err e) h = absurd h
    go (refuses n) (Ok x) h = absurd h
    go (refuses n) (Err e) h = ap refuses h

-- the fields of an event that was read are 32-bit numbers

pub read_words : (bytes : List ℕ) (at : ℕ) {r : Read Event} → ((i : ℕ) → IsByte (get_or bytes i 0)) → record_at bytes at ≡ gives r → All Word (record_numbers r.value)
read_words bytes at {r} h e = (record_unique bytes at r (all_bytes bytes h) e).words

-- a record ends behind where it begins, within the bytes
pub read_behind : (bytes : List ℕ) (at : ℕ) {r : Read Event} → ((i : ℕ) → IsByte (get_or bytes i 0)) → record_at bytes at ≡ gives r → (at < r.end) × (r.end ≤ length bytes)
read_behind bytes at {r} h e =
    let s = (record_unique bytes at r (all_bytes bytes h) e).stands in
    (omega (arith, s.ends, record_positive r.value), s.inside)
