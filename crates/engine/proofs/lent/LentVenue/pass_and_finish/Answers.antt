-- `pass_and_finish`: the pass in the market of the words, then the end of the event. Assumes nothing.
use Rattle.engine.proofs.refinement.QuoteLaws.{pass_may, pass_counts, pass_finishes}
use Rattle.engine.proofs.lent.LentVenue.pass_and_finish.Goals as goal

pub pass-last-requires : goal.pass-last-requires
pass-last-requires c =
    let v = c.args.self.now in
    pass_may v.words.now c.requires.0 c.market-m.result c.header_word-stamp.result (rw c.view.ensures at c.market-m.ensures) (rw c.view-3.ensures at c.header_word-stamp.ensures) v.buffer.now v.end c.requires.1

pub finish-requires : goal.finish-requires
finish-requires c =
    pass_counts c.args.self.now.words.now c.requires.0 c.market-m.result c.header_word-stamp.result (rw c.view.ensures at c.market-m.ensures) (rw c.view-3.ensures at c.header_word-stamp.ensures) c.pass-last.ensures.does

pub returns-clause-passes : goal.returns-clause-passes
returns-clause-passes c =
    let f = c.finish.ensures.becomes in
    rw (f.buffer, f.end) (pass_finishes c.args.self.now.words.now c.requires.0 c.market-m.result c.header_word-stamp.result (rw c.view.ensures at c.market-m.ensures) (rw c.view-3.ensures at c.header_word-stamp.ensures) c.pass-last.ensures.does (rw c.view-2.ensures at c.header_word-id.ensures) f.venue)
