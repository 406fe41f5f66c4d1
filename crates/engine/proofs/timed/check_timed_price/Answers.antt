-- `check_timed_price`: the price, then its time. Assumes nothing.
use mathlib.Core.Path.{sym, ◌∙◌}
use Rattle.std.proofs.lemmas.Result.{err_from_is_err_and}
use Rattle.engine.specs.rules.Refusals.{refusal_of_kind}
use Rattle.engine.proofs.refinement.RefuseLaws.{refuse_given, refuse_none, words_stepped, words_kept}
use Rattle.engine.proofs.timed.check_timed_price.Goals as goal

pub check_price-requires : goal.check_price-requires
check_price-requires c = words_stepped c.args.book.words.now c.requires

pub check_time-requires : goal.check_time-requires
check_time-requires c = words_kept c.args.book.words.now c.requires

pub returns-in_err-check_price : goal.returns-in_err-check_price
unfolding refusal_of_kind
returns-in_err-check_price c =
    let p = err_from_is_err_and c.from_residual.result c.from_residual.ensures.1 in
    rw (p.1, p.2) (sym (refuse_given _ _ _ (sym c.in_err-check_price.ensures)))

pub returns : goal.returns
unfolding refusal_of_kind
returns c =
    c.check_time.ensures ∙ sym (refuse_none _ 3 _ (sym c.in_ok-check_price.ensures))
