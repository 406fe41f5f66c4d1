-- Reading and the bytes of event records and of reports: each undoes the other. Assumes nothing.
use Prim.Native.Nat.{ℕ, zero, suc, ◌+◌, ◌^◌, ◌≤◌, ◌<◌}
use native.Mathlib.Omega.{arith}
use mathlib.Core.Path.{◌≡◌, refl, sym, ap, ◌∙◌, subst}
use mathlib.Core.Bool.{false}
use mathlib.Core.List.{List, [], ◌∷◌, ◌++◌}
use mathlib.Core.Option.{Option, none, some}
use lib.Dec.{leb, eqb, leb→le, eqb→eq}
use lib.ListN.{length, get_or, length-append}
use borrow.Author.Tests.{le-leb, lt-leb, eq-eqb, ne_eqb}
use Rattle.numbers.specs.Lists.{tabulate}
use Rattle.numbers.specs.Tests.{pick, All}
use Rattle.numbers.specs.Answers.{Outcome, gives, refuses, Read}
use Rattle.numbers.specs.SevenBit.{IsByte, bytes_of, bytes_of_all, number_at, Stands}
use Rattle.numbers.proofs.TestLaws.{by_test}
use Rattle.numbers.proofs.ByteLaws.{bytes_last, length_positive}
use Rattle.numbers.proofs.PlaceLaws.{stands_none, stands_then, stands_front, stands_behind}
use Rattle.numbers.proofs.ReadLaws.{read_there, NumberStands, read_unique}
use Rattle.engine.specs.declared.Event.{Event}
use Rattle.engine.specs.declared.Event.TheVariants.{Entry as entry, Cancel as cancel, Bid as bid, Tape as tape, DayEnd as day_end, OwnedEntry as owned_entry, TimedTape as timed_tape}
use Rattle.engine.specs.rules.Reports.{Report, accepted, executed, cancelled, repriced, restriction_starts, day_ended, pause_triggered}
use Rattle.engine.specs.rules.Records.{record_numbers, report_numbers, record_bytes, report_bytes, reports_bytes, highest_field, by_field, on_field, fields_at, Form, on_kind, by_count, by_kind, form_at, record_fields, report_fields, event_of, report_of, read_as, record_at, report_at, on_report, by_report, reports_from, reports_up_to}
use Rattle.engine.specs.claims.RoundTrips.{Word, ReportWords, StandsAs, ReadsOnly, RecordsReadBack, RecordsReadOnly, ReportsReadBack, ReportsReadOnly, AllReportsReadBack, AllReportsReadOnly}

-- Fields

abbrev pub fields : List ℕ → ℕ → Outcome (Read (List ℕ))
fields xs e = gives (record { value = xs; end = e })

pub fields_there : {bytes : List ℕ} {at e : ℕ} (xs : List ℕ) → All Word xs → Stands bytes at (bytes_of_all xs) e → fields_at (length xs) bytes at ≡ fields xs e
unfolding bytes_of_all fields_at by_field pick
fields_there {bytes} {at} {e} [] h s = ap (fields []) (omega (arith, s.ends))
fields_there {bytes} {at} {e} (x ∷ xs) h s =
    rw (read_there x (omega (arith, h.0)) (stands_front (bytes_of x) (bytes_of_all xs) s), le-leb x highest_field h.0, fields_there {at = at + length (bytes_of x)} xs h.1 (stands_behind (bytes_of x) (bytes_of_all xs) s))

-- n fields that were read, where they stand
pub record FieldsStand (n : ℕ) (bytes : List ℕ) (at : ℕ) (r : Read (List ℕ)) : Type 0 where
  pub count : length r.value ≡ n
  pub words : All Word r.value
  pub stands : Stands bytes at (bytes_of_all r.value) r.end

-- nothing that was refused was given
pub not_given : {A : Type 0} {n : ℕ} {x : A} → refuses n ≡ gives x → ⊥
not_given e = let z : ◌≡◌ {A = ℕ} 0 1 = cc in omega arith

pub given : {A : Type 0} {x y : A} → gives x ≡ gives y → x ≡ y
given e = cc

module _ (bytes : List ℕ) (all : All IsByte bytes) where
  abbrev FieldsKnown : ℕ → ℕ → Outcome (Read (List ℕ)) → Type 0
  FieldsKnown n at o = (r : Read (List ℕ)) → o ≡ gives r → FieldsStand n bytes at r

  -- a field in front of those behind it
  one_more_lem : {n at : ℕ} {x : Read ℕ} (o : Outcome (Read (List ℕ))) → NumberStands bytes at x → x.value ≤ highest_field → FieldsKnown n x.end o → FieldsKnown (suc n) at (on_field x.value o)
  unfolding bytes_of_all
  one_more_lem {n} {at} {x} (gives q) s h later r e =
      let f = later q refl in
      subst (FieldsStand (suc n) bytes at) (given e) (record { count = ap suc f.count; words = (h, f.words); stands = stands_then s.stands f.stands })
  one_more_lem (refuses m) s h later r e = absurd (not_given e)

  field_unique : (n at : ℕ) (o : Outcome (Read ℕ)) → number_at bytes at ≡ o → ((m : ℕ) → m ≤ length bytes → FieldsKnown n m (fields_at n bytes m)) → FieldsKnown (suc n) at (by_field (fields_at n bytes) o)
  unfolding by_field
  field_unique n at (refuses m) i later = λ r e. absurd (not_given e)
  field_unique n at (gives x) i later =
      let s = read_unique bytes at all x i in
      by_test (FieldsKnown (suc n) at) (leb x.value highest_field) (λ t. one_more_lem (fields_at n bytes x.end) s (leb→le x.value highest_field t) (later x.end s.stands.inside)) (λ t r e. absurd (not_given e))

  pub fields_unique : (n at : ℕ) → at ≤ length bytes → FieldsKnown n at (fields_at n bytes at)
  unfolding fields_at bytes_of_all
  fields_unique zero at h = λ r e. subst (FieldsStand zero bytes at) (given e) (record { count = refl; words = tt; stands = stands_none bytes at h })
  fields_unique (suc n) at h = field_unique n at (number_at bytes at) refl (λ m k. fields_unique n m k)

-- A kind with its fields

abbrev pub form : ℕ → List ℕ → ℕ → Outcome (Read Form)
form k xs e = gives (record { value = record { kind = k; fields = xs }; end = e })

pub form_there : {bytes : List ℕ} {at e : ℕ} (count : ℕ → Option ℕ) (k : ℕ) (xs : List ℕ) → k < 2 ^ 64 → count k ≡ some (length xs) → All Word xs → Stands bytes at (bytes_of_all (k ∷ xs)) e → form_at count bytes at ≡ form k xs e
unfolding bytes_of_all form_at by_kind
form_there {bytes} {at} {e} count k xs l c h s =
    rw (read_there k l (stands_front (bytes_of k) (bytes_of_all xs) s), c, fields_there xs h (stands_behind (bytes_of k) (bytes_of_all xs) s))

-- a form that was read, where it stands
pub record FormStands (count : ℕ → Option ℕ) (bytes : List ℕ) (at : ℕ) (r : Read Form) : Type 0 where
  pub known : count r.value.kind ≡ some (length r.value.fields)
  pub fits : r.value.kind < 2 ^ 64
  pub words : All Word r.value.fields
  pub stands : Stands bytes at (bytes_of_all (r.value.kind ∷ r.value.fields)) r.end

module _ (count : ℕ → Option ℕ) (bytes : List ℕ) (all : All IsByte bytes) where
  abbrev FormKnown : ℕ → Outcome (Read Form) → Type 0
  FormKnown at o = (r : Read Form) → o ≡ gives r → FormStands count bytes at r

  fields_form : {n at : ℕ} {k : Read ℕ} (o : Outcome (Read (List ℕ))) → count k.value ≡ some n → NumberStands bytes at k → ((q : Read (List ℕ)) → o ≡ gives q → FieldsStand n bytes k.end q) → FormKnown at (on_kind k.value o)
  unfolding bytes_of_all
  fields_form {n} {at} {k} (gives q) c s known r e =
      let f = known q refl in
      subst (FormStands count bytes at) (given e) (record { known = c ∙ ap some (sym f.count); fits = s.fits; words = f.words; stands = stands_then s.stands f.stands })
  fields_form (refuses m) c s known r e = absurd (not_given e)

  kind_form : {at : ℕ} {k : Read ℕ} (c : Option ℕ) → count k.value ≡ c → NumberStands bytes at k → FormKnown at (by_count k.value (λ n. fields_at n bytes k.end) c)
  kind_form none i s = λ r e. absurd (not_given e)
  kind_form {at} {k} (some n) i s = fields_form (fields_at n bytes k.end) i s (fields_unique bytes all n k.end s.stands.inside)

  number_form : {at : ℕ} (o : Outcome (Read ℕ)) → number_at bytes at ≡ o → FormKnown at (by_kind count bytes o)
  unfolding by_kind
  number_form (refuses m) i = λ r e. absurd (not_given e)
  number_form {at} (gives k) i = kind_form (count k.value) refl (read_unique bytes at all k i)

  pub form_unique : (at : ℕ) → FormKnown at (form_at count bytes at)
  unfolding form_at
  form_unique at = number_form (number_at bytes at) refl

no_count : {A : Type 0} {x : A} → none ≡ some x → ⊥
no_count e = let z : ◌≡◌ {A = ℕ} 0 1 = cc in omega arith

-- A list of known length, element by element

each_element : (xs : List ℕ) → tabulate (length xs) (λ i. get_or xs i 0) ≡ xs
each_element [] = refl
each_element (x ∷ xs) = ap (λ l. x ∷ l) (each_element xs)

elements : {n : ℕ} (xs : List ℕ) → some n ≡ some (length xs) → tabulate n (λ i. get_or xs i 0) ≡ xs
elements {n} xs e = let z : n ≡ length xs = cc in rw z (each_element xs)

-- What a form is read as

-- it has the numbers of the form, the kind among the 32-bit ones
abbrev SameNumbers : {A : Type 0} → (A → List ℕ) → (ℕ → Option ℕ) → (Form → A) → Type 0
SameNumbers numbers count make =
    (k : ℕ) (xs : List ℕ) → count k ≡ some (length xs) → (k ≤ highest_field) × (numbers (make (record { kind = k; fields = xs })) ≡ k ∷ xs)

reads_only : {A : Type 0} (numbers bytes_as : A → List ℕ) (count : ℕ → Option ℕ) (make : Form → A) → ((x : A) → bytes_as x ≡ bytes_of_all (numbers x)) → SameNumbers numbers count make → ReadsOnly numbers bytes_as (λ bytes at. read_as make (form_at count bytes at))
reads_only {A} numbers bytes_as count make b same bytes at r all e = go (form_at count bytes at) refl e
  where
    known : (f : Read Form) → FormStands count bytes at f → StandsAs numbers bytes_as bytes at (record { value = make f.value; end = f.end })
    known f s =
        let n = same f.value.kind f.value.fields s.known in
        record {
          words = subst (All Word) (sym n.1) (n.0, s.words);
          stands = subst (λ l. Stands bytes at l f.end) (sym (b (make f.value) ∙ ap bytes_of_all n.1)) s.stands;
        }

    go : (o : Outcome (Read Form)) → form_at count bytes at ≡ o → read_as make o ≡ gives r → StandsAs numbers bytes_as bytes at r
    go (gives f) i e = subst (StandsAs numbers bytes_as bytes at) (given e) (known f (form_unique count bytes all at f i))
    go (refuses m) i e = absurd (not_given e)

-- Event records

record_numbers_lem : SameNumbers record_numbers record_fields event_of
unfolding record_fields event_of pick
record_numbers_lem zero xs e = absurd (no_count e)
record_numbers_lem (suc zero) xs e = (omega arith, ap (λ l. 1 ∷ l) (elements {n = 7} xs e))
record_numbers_lem (suc (suc zero)) xs e = (omega arith, ap (λ l. 2 ∷ l) (elements {n = 1} xs e))
record_numbers_lem (suc (suc (suc zero))) xs e = (omega arith, ap (λ l. 3 ∷ l) (elements {n = 1} xs e))
record_numbers_lem (suc (suc (suc (suc zero)))) xs e = (omega arith, ap (λ l. 4 ∷ l) (elements {n = 1} xs e))
record_numbers_lem (suc (suc (suc (suc (suc zero))))) xs e = (omega arith, ap (λ l. 5 ∷ l) (elements {n = 1} xs e))
record_numbers_lem (suc (suc (suc (suc (suc (suc zero)))))) xs e = (omega arith, ap (λ l. 6 ∷ l) (elements {n = 8} xs e))
record_numbers_lem (suc (suc (suc (suc (suc (suc (suc zero))))))) xs e = (omega arith, ap (λ l. 7 ∷ l) (elements {n = 2} xs e))
record_numbers_lem (suc (suc (suc (suc (suc (suc (suc (suc k)))))))) xs e = absurd (no_count (above (suc (suc (suc (suc (suc (suc (suc (suc k)))))))) (omega arith) e))
  where
    above : (m : ℕ) → 7 < m → record_fields m ≡ some (length xs) → none ≡ some (length xs)
    above m h e =
        simp (ne_eqb m 1 (λ q. omega arith), ne_eqb m 6 (λ q. omega arith), ne_eqb m 7 (λ q. omega arith), le-leb 2 m (omega arith), lt-leb m 5 (omega arith)) at e

pub record_read_back : RecordsReadBack
unfolding record_bytes record_at event_of record_fields pick
record_read_back bytes at r s = go r.value s.words s.stands
  where
    go : (e : Event) → All Word (record_numbers e) → Stands bytes at (record_bytes e) r.end → record_at bytes at ≡ gives (record { value = e; end = r.end })
    go (entry e) h t = rw (form_there record_fields 1 _ (omega arith) refl h.1 t)
    go (cancel i) h t = rw (form_there record_fields 2 _ (omega arith) refl h.1 t)
    go (bid b) h t = rw (form_there record_fields 3 _ (omega arith) refl h.1 t)
    go (tape p) h t = rw (form_there record_fields 4 _ (omega arith) refl h.1 t)
    go (day_end c) h t = rw (form_there record_fields 5 _ (omega arith) refl h.1 t)
    go (owned_entry e k) h t = rw (form_there record_fields 6 _ (omega arith) refl h.1 t)
    go (timed_tape x) h t = rw (form_there record_fields 7 _ (omega arith) refl h.1 t)

pub record_unique : RecordsReadOnly
unfolding record_bytes record_at
record_unique = reads_only record_numbers record_bytes record_fields event_of (λ e. refl) record_numbers_lem

-- Reports

report_numbers_lem : SameNumbers report_numbers report_fields report_of
unfolding report_fields report_of pick
report_numbers_lem zero xs e = absurd (no_count e)
report_numbers_lem (suc zero) xs e = (omega arith, ap (λ l. 1 ∷ l) (elements {n = 3} xs e))
report_numbers_lem (suc (suc zero)) xs e = (omega arith, ap (λ l. 2 ∷ l) (elements {n = 4} xs e))
report_numbers_lem (suc (suc (suc zero))) xs e = (omega arith, ap (λ l. 3 ∷ l) (elements {n = 3} xs e))
report_numbers_lem (suc (suc (suc (suc zero)))) xs e = (omega arith, ap (λ l. 4 ∷ l) (elements {n = 3} xs e))
report_numbers_lem (suc (suc (suc (suc (suc zero))))) xs e = (omega arith, ap (λ l. 5 ∷ l) (elements {n = 0} xs e))
report_numbers_lem (suc (suc (suc (suc (suc (suc zero)))))) xs e = (omega arith, ap (λ l. 6 ∷ l) (elements {n = 1} xs e))
report_numbers_lem (suc (suc (suc (suc (suc (suc (suc zero))))))) xs e = (omega arith, ap (λ l. 7 ∷ l) (elements {n = 2} xs e))
report_numbers_lem (suc (suc (suc (suc (suc (suc (suc (suc k)))))))) xs e = absurd (no_count (above (suc (suc (suc (suc (suc (suc (suc (suc k)))))))) (omega arith) e))
  where
    above : (m : ℕ) → 7 < m → report_fields m ≡ some (length xs) → none ≡ some (length xs)
    above m h e =
        simp (ne_eqb m 1 (λ q. omega arith), ne_eqb m 2 (λ q. omega arith), ne_eqb m 3 (λ q. omega arith), ne_eqb m 4 (λ q. omega arith), ne_eqb m 5 (λ q. omega arith), ne_eqb m 6 (λ q. omega arith), ne_eqb m 7 (λ q. omega arith)) at e

pub report_read_back : ReportsReadBack
unfolding report_bytes report_at report_of report_fields pick
report_read_back bytes at r s = go r.value s.words s.stands
  where
    go : (x : Report) → All Word (report_numbers x) → Stands bytes at (report_bytes x) r.end → report_at bytes at ≡ gives (record { value = x; end = r.end })
    go (accepted i s p) h t = rw (form_there report_fields 1 _ (omega arith) refl h.1 t)
    go (executed x) h t = rw (form_there report_fields 2 _ (omega arith) refl h.1 t)
    go (cancelled i q cause) h t = rw (form_there report_fields 3 _ (omega arith) refl h.1 t)
    go (repriced i p s) h t = rw (form_there report_fields 4 _ (omega arith) refl h.1 t)
    go restriction_starts h t = rw (form_there report_fields 5 _ (omega arith) refl h.1 t)
    go (day_ended phase) h t = rw (form_there report_fields 6 _ (omega arith) refl h.1 t)
    go (pause_triggered d p) h t = rw (form_there report_fields 7 _ (omega arith) refl h.1 t)

pub report_unique : ReportsReadOnly
unfolding report_bytes report_at
report_unique = reads_only report_numbers report_bytes report_fields report_of (λ x. refl) report_numbers_lem

-- a record takes a byte or more

form_positive : (k : ℕ) (xs : List ℕ) → 1 ≤ length (bytes_of_all (k ∷ xs))
unfolding bytes_of_all
form_positive k xs = omega (arith, length_positive k, length-append (bytes_of k) (bytes_of_all xs))

pub record_positive : (e : Event) → 1 ≤ length (record_bytes e)
unfolding record_bytes
record_positive (entry e) = form_positive 1 _
record_positive (cancel i) = form_positive 2 _
record_positive (bid b) = form_positive 3 _
record_positive (tape p) = form_positive 4 _
record_positive (day_end c) = form_positive 5 _
record_positive (owned_entry e k) = form_positive 6 _
record_positive (timed_tape x) = form_positive 7 _

-- so it begins before the end of the bytes
pub read_inside : (bytes : List ℕ) (at : ℕ) (r : Read Event) → All IsByte bytes → record_at bytes at ≡ gives r → at < length bytes
read_inside bytes at r h e = let s = (record_unique bytes at r h e).stands in omega (arith, s.ends, s.inside, record_positive r.value)

-- Reports one after another

-- a report takes a byte or more
report_positive : (r : Report) → 1 ≤ length (report_bytes r)
unfolding report_bytes
report_positive (accepted i s p) = form_positive 1 _
report_positive (executed x) = form_positive 2 _
report_positive (cancelled i q cause) = form_positive 3 _
report_positive (repriced i p s) = form_positive 4 _
report_positive restriction_starts = form_positive 5 _
report_positive (day_ended phase) = form_positive 6 _
report_positive (pause_triggered d p) = form_positive 7 _

-- and it never begins with 0, the mark of a refusal in a played day

kind_first : (k : ℕ) (xs behind : List ℕ) → 1 ≤ k → k < 128 → eqb (get_or (bytes_of_all (k ∷ xs) ++ behind) 0 1) 0 ≡ false
unfolding bytes_of_all
kind_first k xs behind h l = rw (bytes_last k l) (ne_eqb k 0 (λ z. omega (arith, z, h)))

pub reports_first : (rs : List Report) → eqb (get_or (reports_bytes rs) 0 1) 0 ≡ false
unfolding reports_bytes report_bytes
reports_first [] = refl
reports_first (accepted i s p ∷ rs) = kind_first 1 _ _ (omega arith) (omega arith)
reports_first (executed x ∷ rs) = kind_first 2 _ _ (omega arith) (omega arith)
reports_first (cancelled i q cause ∷ rs) = kind_first 3 _ _ (omega arith) (omega arith)
reports_first (repriced i p s ∷ rs) = kind_first 4 _ _ (omega arith) (omega arith)
reports_first (restriction_starts ∷ rs) = kind_first 5 _ _ (omega arith) (omega arith)
reports_first (day_ended phase ∷ rs) = kind_first 6 _ _ (omega arith) (omega arith)
reports_first (pause_triggered d p ∷ rs) = kind_first 7 _ _ (omega arith) (omega arith)

-- there are no more reports than bytes
reports_count : (rs : List Report) → length rs ≤ length (reports_bytes rs)
unfolding reports_bytes
reports_count [] = omega arith
reports_count (r ∷ rs) = omega (arith, report_positive r, reports_count rs, length-append (report_bytes r) (reports_bytes rs))

reports_there : {bytes : List ℕ} {at e : ℕ} (n : ℕ) (rs : List Report) → length rs ≤ n → All ReportWords rs → Stands bytes at (reports_bytes rs) e → reports_from n bytes e at ≡ some rs
unfolding reports_from reports_bytes pick
reports_there {bytes} {at} {e} zero [] l h s = let z : at ≡ e = omega (arith, s.ends) in rw (eq-eqb at e z)
reports_there {bytes} {at} {e} (suc n) [] l h s = let z : at ≡ e = omega (arith, s.ends) in rw (eq-eqb at e z)
reports_there zero (r ∷ rs) l h s = absurd (omega arith)
reports_there {bytes} {at} {e} (suc n) (r ∷ rs) l h s =
    let m = at + length (report_bytes r) in
    let front : Stands bytes at (report_bytes r) m = stands_front (report_bytes r) (reports_bytes rs) s in
    let t : Stands bytes m (reports_bytes rs) e = stands_behind (report_bytes r) (reports_bytes rs) s in
    rw (ne_eqb at e (λ q. omega (arith, report_positive r, t.ends)), report_read_back bytes at (record { value = r; end = m }) (record { words = h.0; stands = front }), reports_there {at = m} n rs (omega arith) h.1 t)

pub all_reports_read_back : AllReportsReadBack
unfolding reports_up_to
all_reports_read_back bytes count rs h = reports_there count rs (omega (arith, reports_count rs, h.1.ends)) h.0 h.1

-- what was read stands there
module _ (bytes : List ℕ) (all : All IsByte bytes) (end : ℕ) where
  abbrev Known : ℕ → List Report → Type 0
  Known at rs = All ReportWords rs × Stands bytes at (reports_bytes rs) end

  abbrev AllKnown : ℕ → Option (List Report) → Type 0
  AllKnown at o = (rs : List Report) → o ≡ some rs → Known at rs

  none_left : {at : ℕ} → at ≡ end → at ≤ length bytes → AllKnown at (some [])
  unfolding reports_bytes
  none_left {at} e h rs s =
      let z : [] ≡ rs = cc in
      subst (Known at) z (tt, subst (λ m. Stands bytes at [] m) e (stands_none bytes at h))

  in_front_lem : {at : ℕ} {r : Read Report} (o : Option (List Report)) → StandsAs report_numbers report_bytes bytes at r → AllKnown r.end o → AllKnown at (on_report r.value o)
  unfolding reports_bytes
  in_front_lem none s k = λ rs e. absurd (no_count e)
  in_front_lem {at} {r} (some qs) s k = λ rs e.
      let z : r.value ∷ qs ≡ rs = cc in
      let q = k qs refl in
      subst (Known at) z ((s.words, q.0), stands_then s.stands q.1)

  first_report : {at : ℕ} (o : Outcome (Read Report)) (later : ℕ → Option (List Report)) → report_at bytes at ≡ o → ((m : ℕ) → m ≤ length bytes → AllKnown m (later m)) → AllKnown at (by_report later o)
  first_report (refuses n) later i k = λ rs e. absurd (no_count e)
  first_report {at} (gives r) later i k =
      let s = report_unique bytes at r all i in
      in_front_lem (later r.end) s (k r.end s.stands.inside)

  reports_unique : (n at : ℕ) → at ≤ length bytes → AllKnown at (reports_from n bytes end at)
  unfolding reports_from
  reports_unique zero at h = by_test (AllKnown at) (eqb at end) (λ t. none_left (eqb→eq at end t) h) (λ t rs e. absurd (no_count e))
  reports_unique (suc n) at h =
      by_test (AllKnown at) (eqb at end) (λ t. none_left (eqb→eq at end t) h) (λ t. first_report (report_at bytes at) (reports_from n bytes end) refl (λ m k. reports_unique n m k))

pub all_reports_unique : AllReportsReadOnly
unfolding reports_up_to
all_reports_unique bytes count rs all e = reports_unique bytes all count count 0 (omega arith) rs e
