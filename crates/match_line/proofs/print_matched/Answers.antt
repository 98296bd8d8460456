-- print_matched: by what the matcher says; the parts stand in the output.
use mathlib.Core.Path.{◌∙◌, ap}
use Rattle.std.specs.Prelude.{Ok}
use Rattle.matcher.proofs.Whole.{ends_within}
use Rattle.match_line.specs.Line.{too_many_line}
use Rattle.match_line.proofs.Told as told
use Rattle.match_line.proofs.print_matched.Goals as goal

pub print_parts-k-requires : goal.print_parts-k-requires
print_parts-k-requires c = search (ends_within, c.in-Ok-Matched.is ∙ ap Ok (rw c.in-Ok-Matched.is at c.in-Ok-Matched.field-0-is))

pub print_place-requires : goal.print_place-requires
print_place-requires c = search (told.place_held, c.in-Ok-NoMatch.is ∙ ap Ok (rw c.in-Ok-NoMatch.is at c.in-Ok-NoMatch.field-0-is))

pub returns-in-Ok-Matched : goal.returns-in-Ok-Matched
returns-in-Ok-Matched c = search (told.matched_line, c.in-Ok-Matched.is ∙ ap Ok (rw c.in-Ok-Matched.is at c.in-Ok-Matched.field-0-is))

pub returns-in-Ok-NoMatch : goal.returns-in-Ok-NoMatch
returns-in-Ok-NoMatch c = search (told.not_line, c.in-Ok-NoMatch.is ∙ ap Ok (rw c.in-Ok-NoMatch.is at c.in-Ok-NoMatch.field-0-is))

pub returns-in-Ok-TooManyNames : goal.returns-in-Ok-TooManyNames
unfolding too_many_line
returns-in-Ok-TooManyNames c = search (told.many_line, c.in-Ok-TooManyNames.is ∙ ap Ok (rw c.in-Ok-TooManyNames.is at c.in-Ok-TooManyNames.field-0-is))

pub returns-in-Err : goal.returns-in-Err
returns-in-Err c = search told.no_line
