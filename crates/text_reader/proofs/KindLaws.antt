-- What the tests on one byte say of its kind. Assumes nothing.
use mathlib.Core.Path.{◌≡◌, refl}
use mathlib.Core.Bool.{true}
use Rattle.meaning.proofs.Tests.{not_false}
use Rattle.notation.specs.declared.Kind.{Kind}
use Rattle.notation.specs.declared.Kind.TheVariants.{Blank, Opens, Closes, Quotes, Plain}
use Rattle.text_reader.specs.Tokens.{is_plain, is_blank}

-- what the two tests say of a kind
pub plain_is : (k : Kind) → is_plain k ≡ true → k ≡ Plain
unfolding is_plain
plain_is Plain h = refl
plain_is Blank h = not_false h
plain_is Opens h = not_false h
plain_is Closes h = not_false h
plain_is Quotes h = not_false h

pub blank_is : (k : Kind) → is_blank k ≡ true → k ≡ Blank
unfolding is_blank
blank_is Blank h = refl
blank_is Plain h = not_false h
blank_is Opens h = not_false h
blank_is Closes h = not_false h
blank_is Quotes h = not_false h
