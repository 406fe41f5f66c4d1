-- What holds of every chain of calls of venue_apply: the theorems of specs/claims/HostCalls.antt, from those of chains of apply. Assumes nothing.
use Prim.Native.Nat.{ℕ}
use native.Mathlib.Omega.{arith}
use mathlib.Core.Path.{◌≡◌, refl, sym, ap, ◌∙◌}
use mathlib.Core.List.{List, [], ◌∷◌, ◌++◌, map, map-map}
use lib.Dec.{T}
use Rattle.numbers.specs.Tests.{All}
use Rattle.numbers.specs.Answers.{Outcome, gives, refuses, Read}
use Rattle.numbers.proofs.TestLaws.{T_true, map_all}
use Rattle.prices.specs.Prices.{is_step, legal}
use Rattle.book.specs.rules.Words.{is_book}
use Rattle.engine.specs.declared.Event.{Event}
use Rattle.engine.specs.rules.Venue.{opened}
use Rattle.engine.specs.rules.Records.{record_at}
use Rattle.engine.specs.rules.Layout.{venue_of}
use Rattle.engine.specs.claims.Calls.{AppliedCall, Chain, none as no_events, more as more_events, LongEnough, SameForBoth}
use Rattle.engine.proofs.bytes.RecordLaws.{record_unique}
use Rattle.engine.proofs.demand3.CallLaws.{demand3_from, no_16_from, both}
use Rattle.engine.proofs.requests.MarketOrderLaws.{market_shorts_stay_in_calls}
use Rattle.engine.proofs.requests.WhichCodeLaws.{calls_as_before}
use Rattle.host.specs.rules.Host.{host_answer, outcome_of}
use Rattle.host.specs.claims.Calls.{AnswerTold, EventApplied, RecordApplied}
use Rattle.host.specs.claims.HostCalls.{ApplyCall, ApplyChain, none, more, EventCall, with_event, event_calls, applied_call, AnswersTold, UnreadableRefused, EventsOfCalls, MarketShortsStayForHosts, CallsAsBeforeForHosts, Demand3OfHosts, NoHostGets16, EqualHostReports}
use Rattle.host.proofs.refinement.HostLaws.{outcome_told, answer_told, opened_fresh}

-- the numbers

told : {w w' : List ℕ} {cs : List ApplyCall} → ApplyChain w cs w' → All (λ (c : ApplyCall). AnswerTold c.answer) cs
told none = tt
told (more {w = w} {w₁ = w₁} {c = c} h a r) = (by_record_lem (record_at c.bytes 0) a, told r)
  where
    by_record_lem : (x : Outcome (Read Event)) → RecordApplied x w c.lent c.answer w₁ c.after → AnswerTold c.answer
    by_record_lem (gives e) b = b.told
    by_record_lem (refuses n) b = answer_told (refuses n) (omega (arith, b.range.0)) b.answers

pub answers_told : AnswersTold
answers_told w cs w' c = told c

pub unreadable_refused : UnreadableRefused
unreadable_refused w bytes b answer w' b' a n e = rw e at a

-- the events

events : {w w' : List ℕ} {cs : List ApplyCall} → ApplyChain w cs w' → Chain w (map applied_call (event_calls cs)) w'
unfolding event_calls
events none = no_events
events {w' = w'} (more {w = w} {w₁ = w₁} {c = c} {cs = cs} h a r) = by_record_lem (record_at c.bytes 0) refl a (events r)
  where
    by_record_lem : (x : Outcome (Read Event)) → record_at c.bytes 0 ≡ x → RecordApplied x w c.lent c.answer w₁ c.after → Chain w₁ (map applied_call (event_calls cs)) w' → Chain w (map applied_call (with_event x c (event_calls cs))) w'
    by_record_lem (gives e) q b later = more_events (record_unique c.bytes 0 e h q).words b.applied later
    by_record_lem (refuses n) q b later = rw b.words at later

pub events_of_calls : EventsOfCalls
events_of_calls w cs w' c = events c

pub market_shorts_stay_for_hosts : MarketShortsStayForHosts
market_shorts_stay_for_hosts w bytes b answer w' b' a r e =
    let x : EventApplied w r.value b answer w' b' = rw e at a in
    market_shorts_stay_in_calls w r.value b (outcome_of answer) w' b' x.applied

pub calls_as_before_for_hosts : CallsAsBeforeForHosts
calls_as_before_for_hosts w bytes b answer w' b' a r e =
    let x : EventApplied w r.value b answer w' b' = rw e at a in
    calls_as_before w r.value b (outcome_of answer) w' b' x.applied

pub demand3_of_hosts : Demand3OfHosts
demand3_of_hosts w s close w₀ h cs w' c =
    let f = opened_fresh h in
    demand3_from s close f.is f.legal f.layout f.venue (map applied_call (event_calls cs)) w' (events c)

-- no refusal 16

joined : {w w₁ w' : List ℕ} {cs ds : List AppliedCall} → Chain w cs w₁ → Chain w₁ ds w' → Chain w (cs ++ ds) w'
joined no_events d = d
joined (more_events h a r) d = more_events h a (joined r d)

module _ (s close : ℕ) (i : T (is_step s)) (t : T (legal s close)) {w₀ : List ℕ} (u : T (is_book w₀)) (f : venue_of w₀ ≡ opened s close) where
  -- hs are the events so far
  no_16_behind : {w w' : List ℕ} {hs : List AppliedCall} {cs : List ApplyCall} → Chain w₀ hs w → ApplyChain w cs w' → All (λ (c : ApplyCall). c.answer ≡ host_answer (refuses 16) → ⊥) cs
  no_16_behind d none = tt
  no_16_behind {hs = hs} d (more {w = w} {w₁ = w₁} {c = c} h a r) = (by_record_lem (record_at c.bytes 0) a, no_16_behind (joined d (events (more {c = c} h a none))) r)
    where
      by_record_lem : (x : Outcome (Read Event)) → RecordApplied x w c.lent c.answer w₁ c.after → c.answer ≡ host_answer (refuses 16) → ⊥
      by_record_lem (gives e) b z = no_16_from s close i t u f hs w d e.value c.lent _ w₁ c.after b.applied (outcome_told (refuses 16) (omega arith) z)
      by_record_lem (refuses n) b z = omega (arith, b.answers, b.range.1)

pub no_host_gets_16 : NoHostGets16
no_host_gets_16 w s close w₀ h cs w' c = let f = opened_fresh h in no_16_behind s close f.is f.legal f.layout f.venue no_events c

-- equal events

-- the numbers of the events, from what is read from them
abbrev Numbers : List EventCall → Type 0
Numbers cs = map (λ (c : EventCall). c.call.answer) cs ≡ map host_answer (map (λ (c : AppliedCall). c.answer) (map applied_call cs))

numbers : (cs : List ApplyCall) → All (λ (c : ApplyCall). AnswerTold c.answer) cs → Numbers (event_calls cs)
unfolding event_calls
numbers [] h = refl
numbers (c ∷ cs) h = by_record_lem (record_at c.bytes 0) (numbers cs h.1)
  where
    by_record_lem : (x : Outcome (Read Event)) → Numbers (event_calls cs) → Numbers (with_event x c (event_calls cs))
    by_record_lem (gives e) later = cc h.0.answers
    by_record_lem (refuses n) later = later

pub equal_host_reports : EqualHostReports
equal_host_reports step close w v w₀ v₀ h k cs ds w' v' c d q l m =
    let f = opened_fresh h in
    let g = opened_fresh k in
    let xs : List EventCall = event_calls cs in
    let ys : List EventCall = event_calls ds in
    let s : SameForBoth (map applied_call xs) (map applied_call ys) w' v' = both (T_true _ f.layout ∙ sym (T_true _ g.layout)) (f.venue ∙ sym g.venue) (events c) (events d) (simp map-map q) (map_all LongEnough applied_call xs l) (map_all LongEnough applied_call ys m) in
    record {
      answers = numbers cs (told c) ∙ ap (map host_answer) s.answers ∙ sym (numbers ds (told d));
      reports = simp map-map at s.reports;
      venue = s.venue;
    }
