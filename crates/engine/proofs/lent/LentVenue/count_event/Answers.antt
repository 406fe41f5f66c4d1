-- `count_event` counts the event. Assumes nothing.
use native.Mathlib.Omega.{arith}
use mathlib.Core.Path.{◌≡◌, refl}
use lib.ListN.{get_or}
use Rattle.engine.specs.rules.Layout.{venue_of}
use Rattle.engine.proofs.refinement.MemoryLaws.{events_counted}
use Rattle.engine.proofs.lent.LentVenue.count_event.Goals as goal
use Rattle.engine.proofs.lent.LentVenue.count_event.Goals.{After-header_word-events}

-- the count that was read
read : (c : After-header_word-events) → c.header_word-events.result ≡ get_or c.args.self.now.words.now 6 0
read c = rw c.view.ensures at c.header_word-events.ensures

pub overflow_add-events : goal.overflow_add-events
unfolding venue_of
overflow_add-events c = omega (arith, read (goal.at.overflow_add-events c).After-header_word-events, c.requires)

pub returns-clause-becomes : goal.returns-clause-becomes
returns-clause-becomes c =
    record { venue = events_counted c.args.self.now.ordered (read (goal.at.returns-clause-becomes c).After-header_word-events) c.set_header_word.ensures; buffer = refl; end = refl }
