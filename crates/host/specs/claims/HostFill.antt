-- What is claimed of venue_would_fill, as a host sees it: numbers and bytes. Assumes nothing.
use Rattle.std.specs.Prelude.{ℕ, ◌≤◌, ◌<◌, ◌≡◌, List, length}
use Rattle.numbers.specs.Tests.{All}
use Rattle.numbers.specs.Answers.{gives, refuses}
use Rattle.numbers.specs.SevenBit.{IsByte}
use Rattle.book.specs.declared.FrontRead.{FrontRead}
use Rattle.book.specs.rules.Words.{resting}
use Rattle.engine.specs.declared.Entry.{Entry}
use Rattle.engine.specs.declared.Event.TheVariants.{Entry as entry}
use Rattle.engine.specs.rules.Sound.{most_events}
use Rattle.engine.specs.rules.Refusals.{refuse_unless, refusal_of_kind, least_buffer}
use Rattle.engine.specs.rules.Records.{record_at}
use Rattle.engine.specs.rules.Layout.{venue_of, sound_words}
use Rattle.engine.specs.rules.Fill.{asked_order, would_fill_in}
use Rattle.engine.specs.claims.Calls.{refusal_given}
use Rattle.engine.specs.claims.Fill.{ReadShortest, of_venue_terms_or_mark, TrueOfBytes}
use Rattle.host.specs.rules.Host.{host_answer, outcome_of}
use Rattle.host.specs.rules.Fill.{fill_number, fill_read}
use Rattle.host.specs.claims.Calls.{HostOpened, HostApplied}
use Rattle.host.specs.claims.HostDays.{HostCall, HostChain}

-- the number says just what was told
abbrev pub FillNumbersRead : Type 0
FillNumbersRead = (w : List ℕ) (mark price shares : ℕ) → fill_read (fill_number w mark price shares) ≡ would_fill_in w mark price shares

-- "No venue reached from open gets 16": after any calls of venue_apply and venue_play from the words that venue_open leaves with the answer 0
abbrev pub NoHostQuestionGets16 : Type 0
NoHostQuestionGets16 =
    (w : List ℕ) (s close : ℕ) (w₀ : List ℕ) → HostOpened w s close 0 w₀ → (hs : List HostCall) (w' : List ℕ) → HostChain w₀ hs w' →
    (mark price shares : ℕ) → fill_number w' mark price shares ≡ host_answer (refuses 16) → ⊥

-- "the count of orders read, equal to the shortest front of the book that suffices, or the whole book"
abbrev pub ReadsShortestForHosts : Type 0
ReadsShortestForHosts =
    (w : List ℕ) (mark price shares number : ℕ) → number ≡ fill_number w mark price shares →
    (r : FrontRead) → fill_read number ≡ gives r → ReadShortest (asked_order (venue_of w).market mark price shares) (resting w) r

-- its refusals are those of an entry that are for venue, price, shares and mark; "a full book or spent events don't matter"
abbrev pub RefusedByKindForHosts : Type 0
RefusedByKindForHosts =
    (w : List ℕ) (e : Entry) (number : ℕ) → number ≡ fill_number w e.mark e.price e.shares →
    refusal_given (fill_read number) ≡ refuse_unless (sound_words w) 16 (of_venue_terms_or_mark (refusal_of_kind (venue_of w) (entry e)))

-- a call of venue_apply whose bytes read as the entry e, and the number that venue_would_fill answers of the same words for the mark, price and shares of e
pub record AskedBefore (w bytes b : List ℕ) (answer : ℕ) (w' b' : List ℕ) (e : Entry) (end number : ℕ) : Type 0 where
  pub are_bytes : All IsByte bytes
  pub applied : HostApplied w bytes b answer w' b'
  pub reads : record_at bytes 0 ≡ gives (record { value = entry e; end = end })
  pub answered : number ≡ fill_number w e.mark e.price e.shares

-- No. 4, "tell whether an entry would fill in full now": where the call is accepted, the answer is true of its report bytes
abbrev pub TellsHostsTheTruth : Type 0
TellsHostsTheTruth =
    (w bytes b : List ℕ) (answer : ℕ) (w' b' : List ℕ) (e : Entry) (end number : ℕ) → AskedBefore w bytes b answer w' b' e end number →
    answer < 65_536 → TrueOfBytes e b' answer (fill_read number)

-- "refused as in an entry": with a long enough buffer, while events are left
abbrev pub RefusedAsEntriesForHosts : Type 0
RefusedAsEntriesForHosts =
    (w bytes b : List ℕ) (answer : ℕ) (w' b' : List ℕ) (e : Entry) (end number : ℕ) → AskedBefore w bytes b answer w' b' e end number →
    least_buffer ≤ length b → (venue_of w).accepted_events < most_events →
    refusal_given (fill_read number) ≡ of_venue_terms_or_mark (refusal_given (outcome_of answer))
