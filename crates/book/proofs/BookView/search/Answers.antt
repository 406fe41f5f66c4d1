-- The loop halves the places that are left: the last one has the id, or the gap for it is beside it; in an empty book the gap is 0. Assumes nothing.
use native.Mathlib.Omega.{arith}
use mathlib.Core.Path.{sym, ◌∙◌}
use Rattle.std.proofs.lemmas.Bool.{eqb-true, eqb-false}
use Rattle.std.proofs.lemmas.Cmp.{ranked}
use Rattle.book.specs.rules.Words.{resting}
use Rattle.book.proofs.definitions.RisingLaws.{ids_rise_rises}
use Rattle.book.proofs.refinement.PlaceLaws.{used_length, used_id}
use Rattle.book.proofs.refinement.RankLaws.{gap_of_empty, search_start, search_upper, search_lower, search_equal, search_less, search_greater}
use Rattle.book.proofs.BookView.search.Goals as goal

pub returns-then-is_empty-clause-absent : goal.returns-then-is_empty-clause-absent
returns-then-is_empty-clause-absent c =
    let w = c.args.self.words.now in
    gap_of_empty (resting w) c.args.id (omega (arith, used_length w c.used-places.ensures, eqb-true _ 0 (sym c.if-is_empty.ensures)))

pub loop-places-init : goal.loop-places-init
loop-places-init c =
    let w = c.args.self.words.now in
    search_start (resting w) c.args.id c.used-places.result.now (omega (arith, eqb-false _ 0 (sym c.if-is_empty.ensures))) (used_length w c.used-places.ensures) (used_id w c.args.self.laid_out c.used-places.ensures)

pub loop-places-preserved : goal.loop-places-preserved
loop-places-preserved c =
    search_lower (ids_rise_rises 0 (resting c.args.self.words.now) c.requires) c.loop-places.invariant c.loop-places-test.true c.if-places-half.false

pub loop-places-preserved-then-places-half : goal.loop-places-preserved-then-places-half
loop-places-preserved-then-places-half c =
    search_upper (ids_rise_rises 0 (resting c.args.self.words.now) c.requires) c.loop-places.invariant c.loop-places-test.true c.if-places-half.true

pub returns-in-Equal-clause-found : goal.returns-in-Equal-clause-found
returns-in-Equal-clause-found c =
    search_equal (ids_rise_rises 0 (resting c.args.self.words.now) c.requires) c.loop-places.invariant c.loop-places-test.false (ranked _ c.args.id _ (sym c.in-Equal.is ∙ c.cmp.ensures))

pub returns-in-Less-clause-absent : goal.returns-in-Less-clause-absent
returns-in-Less-clause-absent c =
    search_less (ids_rise_rises 0 (resting c.args.self.words.now) c.requires) c.loop-places.invariant c.loop-places-test.false (ranked _ c.args.id _ (sym c.in-Less.is ∙ c.cmp.ensures))

pub returns-in-Greater-clause-absent : goal.returns-in-Greater-clause-absent
returns-in-Greater-clause-absent c =
    search_greater (ids_rise_rises 0 (resting c.args.self.words.now) c.requires) c.loop-places.invariant c.loop-places-test.false (ranked _ c.args.id _ (sym c.in-Greater.is ∙ c.cmp.ensures))
