-- The answer of venue_play, from that of playing. Assumes nothing.
use Prim.Native.Nat.{ℕ}
use native.Mathlib.Omega.{arith}
use mathlib.Core.Path.{◌≡◌, refl, sym, ap, ◌∙◌}
use mathlib.Core.Bool.{Bool, true, false}
use mathlib.Core.Logic.{inl, inr}
use mathlib.Core.List.{List, [], ◌∷◌}
use lib.Dec.{T}
use Rattle.numbers.specs.Tests.{pick}
use Rattle.numbers.specs.Answers.{refuses}
use Rattle.numbers.proofs.TestLaws.{pick_yes}
use Rattle.engine.specs.rules.Layout.{sound_words}
use Rattle.days.specs.declared.Played.{Played}
use Rattle.days.specs.declared.Stop.{Stop}
use Rattle.days.specs.declared.Stop.TheVariants.{AllPlayed, EndsFull, ReportsFull, Unreadable, VenueBroken}
use Rattle.days.specs.Days.{Stopped, played}
use Rattle.days.specs.DayCalls.{outcome_of_stop, DayPlayed}
use Rattle.days.proofs.DayLaws.{broken_day}
use Rattle.host.specs.rules.Host.{host_answer}
use Rattle.host.specs.claims.Calls.{AnswerFits}
use Rattle.host.proofs.refinement.HostLaws.{read_refusal_range, outcome_told}
use Rattle.host.specs.claims.PlayCalls.{progress_of, StopFits, StopTold, HostPlayed}

-- each reason has a number of its own

stop_fits : (s : Stop) → StopFits (outcome_of_stop s) × AnswerFits (outcome_of_stop s)
stop_fits AllPlayed = (omega arith, omega arith)
stop_fits EndsFull = (omega arith, omega arith)
stop_fits ReportsFull = (omega arith, omega arith)
stop_fits (Unreadable r) = (inl (read_refusal_range r), omega (arith, read_refusal_range r))
stop_fits VenueBroken = (inr refl, omega arith)

stop_told : (s : Stop) {answer : ℕ} → answer ≡ host_answer (outcome_of_stop s) → StopTold answer
stop_told s e =
    let o = outcome_told (outcome_of_stop s) (stop_fits s).1 e in
    record { answers = e ∙ ap host_answer (sym o); fits = rw o (stop_fits s).0 }

told_broken : (s : Stop) → host_answer (outcome_of_stop s) ≡ host_answer (refuses 16) → s ≡ VenueBroken
told_broken AllPlayed e = absurd (omega (arith, e))
told_broken EndsFull e = absurd (omega (arith, e))
told_broken ReportsFull e = absurd (omega (arith, e))
told_broken (Unreadable r) e = absurd (omega (arith, e, read_refusal_range r))
told_broken VenueBroken e = refl

-- the three numbers are written where the words are sound

module _ {w records b es w' b' es' : List ℕ} {from answer : ℕ} {r : Played} (d : DayPlayed w records from b es r w' b' es') (a : answer ≡ host_answer (outcome_of_stop r.stop)) where
  broken : answer ≡ host_answer (refuses 16) → sound_words w ≡ false
  broken z = d.broken (told_broken r.stop (sym a ∙ z))

  pub play_refused : {p p' : List ℕ} → r.stop ≡ VenueBroken → p' ≡ p → HostPlayed w records from b es p answer w' b' es' p'
  unfolding pick
  play_refused s q =
      let z : answer ≡ host_answer (refuses 16) = a ∙ ap (λ (x : Stop). host_answer (outcome_of_stop x)) s in
      rw q (record { told = stop_told r.stop a; answers = a ∙ ap host_answer d.stops; progress = rw (broken z); refused = broken; done = d.done })

  pub play_answered : {p p' : List ℕ} → (r.stop ≡ VenueBroken → ⊥) → p' ≡ r.events ∷ r.at ∷ r.end ∷ [] → HostPlayed w records from b es p answer w' b' es' p'
  play_answered n q =
      let same : r.events ∷ r.at ∷ r.end ∷ [] ≡ progress_of (played w records from b es).day = rw (d.events, d.at, d.end) in
      record { told = stop_told r.stop a; answers = a ∙ ap host_answer d.stops; progress = q ∙ same ∙ sym (pick_yes (sound_words w) _ _ sound); refused = broken; done = d.done }
    where
      by : (x : Bool) → sound_words w ≡ x → T (sound_words w)
      by true e = rw e tt
      by false e = absurd (n (told_broken r.stop (ap host_answer d.stops ∙ ap (λ (s : Stopped). host_answer s.stop) (broken_day w records from b es e))))

      sound : T (sound_words w)
      sound = by (sound_words w) refl
