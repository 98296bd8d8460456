-- turn: one line a need; the laws are in Listing.
use borrow.Author.Rules.{rules}
use Rattle.savings.proofs.Listing as listing
use Rattle.savings.proofs.turn.Goals as goal

pub returns-in-Form : goal.returns-in-Form
returns-in-Form c = listing.turned_form _ _ _ _ _ _ _ _ c.next_line-lines.ensures c.room_for_line-at.ensures _ _ _ c.work_in.ensures.0 c.work_in.ensures.1 c.work_in.ensures.2 (search rules)

pub returns-in-Bad : goal.returns-in-Bad
returns-in-Bad c = search listing.turned_bad

pub returns-in-End : goal.returns-in-End
returns-in-End c = search listing.turned_end
