-- A refused entry changes nothing; any other is entered, with its owner. Assumes nothing.
use Prim.Native.Nat.{ℕ}
use native.Mathlib.Omega.{arith}
use mathlib.Core.Path.{◌≡◌, sym, ap, ◌∙◌, subst}
use mathlib.Core.Option.{Option}
use mathlib.Core.List.{List}
use Rattle.engine.specs.declared.Entry.{Entry}
use Rattle.engine.specs.declared.Event.{Event}
use Rattle.engine.specs.declared.Event.TheVariants.{OwnedEntry as owned_entry}
use Rattle.engine.specs.rules.Venue.{Venue}
use Rattle.engine.specs.rules.Refusals.{refusal_of_owner, refusal_of_entry, refusal_of_kind}
use Rattle.std.proofs.lemmas.Result.{err_from_is_err_and}
use Rattle.engine.specs.rules.Layout.{venue_of}
use Rattle.engine.specs.steps.Memory.{Room, effect_in, Accepts}
use Rattle.engine.proofs.refinement.RefuseLaws.{words_stepped}
use Rattle.engine.proofs.refinement.EnterLaws.{by_owned}
use Rattle.engine.proofs.refinement.ApplyLaws.{kind_refused, kind_allowed, kind_may_accept, kind_has_room, kind_accepted}
use Rattle.engine.proofs.lent.LentVenue.apply_owned_entry.Goals as goal

-- what was found of the entry and of its owner is what the kind is refused for
by_kind : (v : Venue) (e : Entry) (k : ℕ) {owner found : Option ℕ} → owner ≡ refusal_of_owner k → found ≡ refusal_of_entry v e owner → refusal_of_kind v (owned_entry e k) ≡ found
unfolding refusal_of_kind
by_kind v e k of_owner of_entry = ap (refusal_of_entry v e) (sym of_owner) ∙ sym of_entry

pub check_entry-requires : goal.check_entry-requires
check_entry-requires c = rw c.view.ensures (words_stepped c.args.self.now.words.now c.requires.0.sound)

pub enter-requires : goal.enter-requires
unfolding venue_of
enter-requires c =
    let e = owned_entry c.args.e c.args.owner in
    let h = by_kind _ _ _ c.check_owner.ensures (rw c.view.ensures at c.in_ok-check_entry.ensures) in
    let k = kind_allowed e c.requires.0 h in
    let room = kind_has_room e c.requires.0 h (omega arith) in
    record { may_accept = (kind_may_accept e c.requires.0 h, k.0.place.has_place, k.0.place.new_id); none_written = c.requires.1; room = subst (λ (x : Event). Room c.args.self.now.buffer.now 0 (effect_in c.args.self.now.words.now x).reports) (sym (by_owned c.args.e c.args.owner k.1.least)) room }

pub returns-in_err-check_entry-clause-applied : goal.returns-in_err-check_entry-clause-applied
returns-in_err-check_entry-clause-applied c =
    let p = err_from_is_err_and c.from_residual.result c.from_residual.ensures.1 in
    rw (p.1, p.2) (kind_refused (owned_entry c.args.e c.args.owner) c.requires.0 (by_kind _ _ _ c.check_owner.ensures (rw c.view.ensures at c.in_err-check_entry.ensures)))

-- it is accepted as the kind that it is
accepted-owned : {w w' b b' : List ℕ} {end : ℕ} {x y : Event} → x ≡ y → Accepts w w' b b' x end → Accepts w w' b b' y end
accepted-owned {w} {w'} {b} {b'} {end} q a = subst (λ (z : Event). Accepts w w' b b' z end) q a

pub returns-clause-applied : goal.returns-clause-applied
returns-clause-applied c =
    let e = owned_entry c.args.e c.args.owner in
    let h = by_kind _ _ _ c.check_owner.ensures (rw c.view.ensures at c.in_ok-check_entry.ensures) in
    rw c.byte_count.ensures (kind_accepted e c.requires.0 h (accepted-owned (by_owned c.args.e c.args.owner (kind_allowed e c.requires.0 h).1.least) c.enter.ensures.accepts))
