-- `find`: where the search ended. Assumes nothing.
use Rattle.book.specs.rules.Words.{resting}
use Rattle.book.proofs.definitions.RisingLaws.{ids_rise_rises}
use Rattle.book.proofs.refinement.RankLaws.{found_id}
use Rattle.book.proofs.BookView.find.Goals as goal

pub returns : goal.returns
returns c =
    let l = resting c.args.self.words.now in
    rw c.ok.ensures.value (found_id l (ids_rise_rises 0 l c.requires) c.args.id c.search.result c.search.ensures.found c.search.ensures.absent)
