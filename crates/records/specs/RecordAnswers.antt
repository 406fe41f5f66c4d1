-- The answers of the record calls in document 01's terms, by its numbers: 9 a missing byte, 10 a bad number, 11 the kind, 12 a field,
-- 13 no room. Assumes nothing.
use Rattle.std.specs.Prelude.{ℕ, ◌≡◌, List, [], ◌∷◌, get_or, Result, Ok, Err}
use Rattle.numbers.specs.Answers.{Outcome, gives, refuses, Read}
use Rattle.engine.specs.declared.Event.{Event}
use Rattle.engine.specs.rules.Records.{on_kind, event_of, read_as}
use Rattle.records.specs.declared.ReadRefusal.{ReadRefusal}
use Rattle.records.specs.declared.FieldAt.{FieldAt}
use Rattle.records.specs.declared.EventAt.{EventAt}
use Rattle.records.specs.ReadRefusals.{read_refusal_number}

abbrev pub outcome_of_record_read : Result EventAt ReadRefusal → Outcome (Read Event)
outcome_of_record_read (Ok x) = gives (record { value = x.event; end = x.end })
outcome_of_record_read (Err r) = refuses (read_refusal_number r)

-- a single field, and the fields xs that were read
abbrev pub outcome_of_field : Result FieldAt ReadRefusal → Outcome (Read (List ℕ))
outcome_of_field (Ok x) = gives (record { value = x.value ∷ []; end = x.end })
outcome_of_field (Err r) = refuses (read_refusal_number r)

abbrev pub outcome_of_fields : Result (List ℕ × ℕ) ReadRefusal → Outcome (Read (List ℕ))
outcome_of_fields (Ok x) = gives (record { value = x.0; end = x.1 })
outcome_of_fields (Err r) = refuses (read_refusal_number r)

-- the event of a kind whose fields were read
abbrev pub event_from : ℕ → Outcome (Read (List ℕ)) → Outcome (Read Event)
event_from k o = read_as event_of (on_kind k o)

-- the answer where one field is read and then made into an event: Made says which event may be made of it
abbrev pub MadeFrom : (ℕ → Event → Type 0) → Outcome (Read (List ℕ)) → Result EventAt ReadRefusal → Type 0
MadeFrom Made (gives r) (Ok x) = Made (get_or r.value 0 0) x.event × (x.end ≡ r.end)
MadeFrom Made (gives r) (Err e) = ⊥
MadeFrom Made (refuses n) (Ok x) = ⊥
MadeFrom Made (refuses n) (Err e) = read_refusal_number e ≡ n

pub record EventFrom (Made : ℕ → Event → Type 0) (o : Outcome (Read (List ℕ))) (answer : Result EventAt ReadRefusal) : Type 0 where
  pub made : MadeFrom Made o answer
