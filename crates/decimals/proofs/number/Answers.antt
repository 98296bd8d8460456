-- `decimals::number` meets its contract. The invariant: the digits from i on, after the number in the room, say what all digits say. Assumes nothing.
use borrow.Author.Rules.{rules}
use Rattle.decimals.proofs.WordLaws as laws
use Rattle.decimals.proofs.number.Goals as goal

pub loop-i-init : goal.loop-i-init
loop-i-init c = search laws.number_starts

pub returns-then-room-at-gt-MOST : goal.returns-then-room-at-gt-MOST
returns-then-room-at-gt-MOST c = search laws.number_long

pub extended-at-requires : goal.extended-at-requires
extended-at-requires c = search (laws.number_small, laws.number_most, laws.number_place, rules)

pub loop-i-preserved : goal.loop-i-preserved
loop-i-preserved c = search laws.number_turn

pub returns : goal.returns
returns c = search laws.number_ends
