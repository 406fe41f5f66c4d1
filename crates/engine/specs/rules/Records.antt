-- Event records and reports as bytes: document 01, "Events, each field a 32-bit whole number: kind 1 entry (fields as listed), 2 cancel
-- (id), 3 bid, 4 tape, 5 day end (price)"; document 02, No. 7: "kind 6 is an entry with an owner .. after the slide"; No. 10: "kind 7 .. carries a time in whole seconds and a
-- tape price"; reports are "in the seven-bit form, kind first". Assumes nothing.
use Rattle.std.specs.Prelude.{ℕ, zero, suc, List, [], ◌∷◌, ◌++◌, leb, eqb, get_or}
use Rattle.std.proofs.Math.Option.{Option, none, some}
use Rattle.numbers.specs.Tests.{pick}
use Rattle.numbers.specs.Answers.{Outcome, gives, refuses, Read}
use Rattle.numbers.specs.SevenBit.{bytes_of_all, number_at}
use Rattle.engine.specs.declared.Entry.{Entry}
use Rattle.engine.specs.declared.Event.{Event}
use Rattle.engine.specs.declared.Event.TheVariants.{Entry as entry, Cancel as cancel, Bid as bid, Tape as tape, DayEnd as day_end, OwnedEntry as owned_entry, TimedTape as timed_tape}
use Rattle.engine.specs.rules.Reports.{Report, accepted, executed, cancelled, repriced, restriction_starts, day_ended, pause_triggered}

-- the numbers of an event record and of a report: the kind, then the fields in the paper's order
abbrev pub record_numbers : Event → List ℕ
record_numbers (entry e) = 1 ∷ e.id ∷ e.mark ∷ e.price ∷ e.shares ∷ e.show ∷ e.life ∷ e.slide ∷ []
record_numbers (cancel i) = 2 ∷ i ∷ []
record_numbers (bid b) = 3 ∷ b ∷ []
record_numbers (tape p) = 4 ∷ p ∷ []
record_numbers (day_end c) = 5 ∷ c ∷ []
record_numbers (owned_entry e k) = 6 ∷ e.id ∷ e.mark ∷ e.price ∷ e.shares ∷ e.show ∷ e.life ∷ e.slide ∷ k ∷ []
record_numbers (timed_tape x) = 7 ∷ x.time ∷ x.price ∷ []

abbrev pub report_numbers : Report → List ℕ
report_numbers (accepted i s p) = 1 ∷ i ∷ s ∷ p ∷ []
report_numbers (executed x) = 2 ∷ x.buyer ∷ x.seller ∷ x.price ∷ x.shares ∷ []
report_numbers (cancelled i q cause) = 3 ∷ i ∷ q ∷ cause ∷ []
report_numbers (repriced i p s) = 4 ∷ i ∷ p ∷ s ∷ []
report_numbers restriction_starts = 5 ∷ []
report_numbers (day_ended phase) = 6 ∷ phase ∷ []
report_numbers (pause_triggered d p) = 7 ∷ d ∷ p ∷ []

unfoldable pub record_bytes : Event → List ℕ
record_bytes e = bytes_of_all (record_numbers e)

unfoldable pub report_bytes : Report → List ℕ
report_bytes r = bytes_of_all (report_numbers r)

-- the bytes of reports one after another
unfoldable pub reports_bytes : List Report → List ℕ
reports_bytes [] = []
reports_bytes (r ∷ rs) = report_bytes r ++ reports_bytes rs

-- Reading

-- "12 a field above 4,294,967,295"
abbrev pub highest_field : ℕ
highest_field = 4_294_967_295

-- a field in front of those that were read behind it
abbrev pub on_field : ℕ → Outcome (Read (List ℕ)) → Outcome (Read (List ℕ))
on_field x (gives r) = gives (record { value = x ∷ r.value; end = r.end })
on_field x (refuses n) = refuses n

-- a field is read and judged before the next; later reads the further fields from an offset on
unfoldable pub by_field : (ℕ → Outcome (Read (List ℕ))) → Outcome (Read ℕ) → Outcome (Read (List ℕ))
by_field later (gives x) = pick (leb x.value highest_field) (on_field x.value (later x.end)) (refuses 12)
by_field later (refuses n) = refuses n

-- n fields from an offset on
unfoldable pub fields_at : ℕ → List ℕ → ℕ → Outcome (Read (List ℕ))
fields_at zero bytes at = gives (record { value = []; end = at })
fields_at (suc n) bytes at = by_field (fields_at n bytes) (number_at bytes at)

-- a kind with its fields; "11 kind not 1 to 5", No. 7: "Kind 6 is no longer an unknown kind", No. 10: "kind 7, now known to the reader and the writer"
pub record Form : Type 0 where
  pub kind : ℕ
  pub fields : List ℕ

abbrev pub on_kind : ℕ → Outcome (Read (List ℕ)) → Outcome (Read Form)
on_kind k (gives r) = gives (record { value = record { kind = k; fields = r.value }; end = r.end })
on_kind k (refuses n) = refuses n

abbrev pub by_count : ℕ → (ℕ → Outcome (Read (List ℕ))) → Option ℕ → Outcome (Read Form)
by_count k fields none = refuses 11
by_count k fields (some n) = on_kind k (fields n)

-- the kind is read and judged before its fields
unfoldable pub by_kind : (ℕ → Option ℕ) → List ℕ → Outcome (Read ℕ) → Outcome (Read Form)
by_kind count bytes (gives k) = by_count k.value (λ n. fields_at n bytes k.end) (count k.value)
by_kind count bytes (refuses n) = refuses n

-- what stands at an offset: a kind that has a count of fields, and as many fields
unfoldable pub form_at : (ℕ → Option ℕ) → List ℕ → ℕ → Outcome (Read Form)
form_at count bytes at = by_kind count bytes (number_at bytes at)

-- how many fields a kind has: event records, and reports
unfoldable pub record_fields : ℕ → Option ℕ
record_fields k = pick (eqb k 1) (some 7) (pick (eqb k 6) (some 8) (pick (eqb k 7) (some 2) (pick (leb 2 k) (pick (leb k 5) (some 1) none) none)))

unfoldable pub report_fields : ℕ → Option ℕ
report_fields k =
    pick (eqb k 1) (some 3) (pick (eqb k 2) (some 4) (pick (eqb k 3) (some 3) (pick (eqb k 4) (some 3) (pick (eqb k 5) (some 0) (pick (eqb k 6) (some 1) (pick (eqb k 7) (some 2) none))))))

-- the entry whose fields these are
abbrev pub entry_from : List ℕ → Entry
entry_from xs =
    let x : ℕ → ℕ = λ i. get_or xs i 0 in
    record { id = x 0; mark = x 1; price = x 2; shares = x 3; show = x 4; life = x 5; slide = x 6 }

-- the event of a record, the report of a form
unfoldable pub event_of : Form → Event
event_of f =
    let x : ℕ → ℕ = λ i. get_or f.fields i 0 in
    let e : Entry = entry_from f.fields in
    pick (eqb f.kind 1) (entry e) (pick (eqb f.kind 6) (owned_entry e (x 7)) (pick (eqb f.kind 7) (timed_tape (record { time = x 0; price = x 1 })) (pick (eqb f.kind 2) (cancel (x 0)) (pick (eqb f.kind 3) (bid (x 0)) (pick (eqb f.kind 4) (tape (x 0)) (day_end (x 0)))))))

unfoldable pub report_of : Form → Report
report_of f =
    let x : ℕ → ℕ = λ i. get_or f.fields i 0 in
    pick (eqb f.kind 1) (accepted (x 0) (x 1) (x 2)) (pick (eqb f.kind 2) (executed (record { buyer = x 0; seller = x 1; price = x 2; shares = x 3 })) (pick (eqb f.kind 3) (cancelled (x 0) (x 1) (x 2)) (pick (eqb f.kind 4) (repriced (x 0) (x 1) (x 2)) (pick (eqb f.kind 5) restriction_starts (pick (eqb f.kind 6) (day_ended (x 0)) (pause_triggered (x 0) (x 1)))))))

-- what was read, as something else
abbrev pub read_as : {A B : Type 0} → (A → B) → Outcome (Read A) → Outcome (Read B)
read_as f (gives r) = gives (record { value = f r.value; end = r.end })
read_as f (refuses n) = refuses n

-- the event record, and the report, at an offset of a list of bytes: "9 when a byte is missing (also at or past the end); 10 a bad number;
-- 11 kind not 1 to 5" (to 7 by No. 7 and No. 10); "12 a field above 4,294,967,295. Judged left to right"
unfoldable pub record_at : List ℕ → ℕ → Outcome (Read Event)
record_at bytes at = read_as event_of (form_at record_fields bytes at)

unfoldable pub report_at : List ℕ → ℕ → Outcome (Read Report)
report_at bytes at = read_as report_of (form_at report_fields bytes at)

-- Reports one after another

-- a report in front of those that were read behind it
abbrev pub on_report : Report → Option (List Report) → Option (List Report)
on_report r none = none
on_report r (some rs) = some (r ∷ rs)

-- by what stands at an offset; later reads the further reports from an offset on
abbrev pub by_report : (ℕ → Option (List Report)) → Outcome (Read Report) → Option (List Report)
by_report later (gives r) = on_report r.value (later r.end)
by_report later (refuses n) = none

-- the reports from an offset up to an end, at most n of them; none where something else stands there
unfoldable pub reports_from : ℕ → List ℕ → ℕ → ℕ → Option (List Report)
reports_from zero bytes end at = pick (eqb at end) (some []) none
reports_from (suc n) bytes end at = pick (eqb at end) (some []) (by_report (reports_from n bytes end) (report_at bytes at))

-- the reports at the front of a buffer up to a byte count; a report takes a byte or more, so there are no more reports than bytes
unfoldable pub reports_up_to : List ℕ → ℕ → Option (List Report)
reports_up_to bytes count = reports_from count bytes count 0
