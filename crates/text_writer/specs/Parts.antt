-- A part of a text: an expression, or the rest of a list.
use Rattle.std.specs.Prelude.{ℕ, List, Bool, true, false}
use Rattle.std.proofs.Math.Option.{none, some}
use Rattle.meaning.specs.Tree.{Tree}
use Rattle.notation.specs.declared.Place.{Place}
use Rattle.notation.specs.Words.{name_at}
use Rattle.notation.specs.Texts.{head_in, text_at, text_rest}

unfoldable pub part_text : Bool → Tree → Place → List ℕ
unfolding text_at text_rest
part_text true t p = text_rest t p
part_text false t p = text_at t p

-- where the first part of a pair stands: as one more part, or at the head of a list
unfoldable pub part_place : Bool → Place → Place
part_place true p = p
part_place false p = head_in p

-- what stands before it: a space, or the opening bracket
unfoldable pub first_byte : Bool → ℕ
first_byte true = 0x20
first_byte false = 0x28

-- whether a name fits these bytes at a place
unfoldable pub has_name : Place → List ℕ → Bool
unfolding name_at
has_name p b = elim (name_at p b) [ some c ↦ true | none ↦ false ]
