-- What the matcher's output holds, as it is printed.
use Rattle.std.specs.Prelude.{ℕ, ◌-◌, ◌≤◌, ◌≡◌, true, false, List, [], ◌∷◌, ◌++◌, eqb, ltb, take, drop, length}
use Rattle.matcher.specs.declared.Parts.{Parts}
use Rattle.match_line.specs.Line.{binding_text}

-- the bytes of a name of at most 64 bytes, from its written atom: "`00` to `7f`" stands alone, "`80` to `bf`" is a prefix of one byte, another has two
unfoldable pub name_in : List ℕ → List ℕ
name_in [] = []
name_in (x ∷ bs) = elim (ltb x 0x80) [ true ↦ x ∷ bs | false ↦ elim (ltb x 0xc0) [ true ↦ bs | false ↦ drop 1 bs ] ]

-- the name's bytes begin at r
pub record NameFrom (written : List ℕ) (r : ℕ) : Type 0 where
  pub within : r ≤ length written
  pub rest : drop r written ≡ name_in written

-- a written name of `mid` bytes and the tree behind it
unfoldable pub both_in : List ℕ → ℕ → List ℕ
unfolding binding_text name_in
both_in both mid = binding_text (name_in (take mid both)) (drop mid both)

-- `ok` and the bindings whose parts end where e says
unfoldable pub ok_in : List ℕ → Parts → List ℕ
unfolding both_in
ok_in out e = 111 ∷ 107 ∷ elim (eqb e.count 0) [
  | true ↦ []
  | false ↦ both_in (take e.node_1 out) e.name_1 ++ elim (eqb e.count 1) [
    | true ↦ []
    | false ↦ both_in (take (e.node_2 - e.node_1) (drop e.node_1 out)) (e.name_2 - e.node_1)
  ]
]
