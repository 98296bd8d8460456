-- Worked examples: the whole line, from the bytes of both forms. Assumes nothing.
use mathlib.Core.Path.{◌≡◌, refl}
use mathlib.Core.List.{[], ◌∷◌}
use Rattle.matcher.specs.Outcome.{worked, outcome}
use Rattle.match_line.specs.Line.{match_line}

-- ((: . A) . (: . B)) and (5 . 6): `ok 41=05 42=06`
two_names : match_line (0xff ∷ 0xff ∷ 0x3a ∷ 0x41 ∷ 0xff ∷ 0x3a ∷ 0x42 ∷ 0xff ∷ 0x05 ∷ 0x06 ∷ []) 7 65_536 32_768
    ≡ 111 ∷ 107 ∷ 32 ∷ 52 ∷ 49 ∷ 61 ∷ 48 ∷ 53 ∷ 32 ∷ 52 ∷ 50 ∷ 61 ∷ 48 ∷ 54 ∷ 10 ∷ []
unfolding match_line worked outcome
two_names = refl

-- ($ . first) and 5: the name's prefix is not printed
long_name : match_line (0xff ∷ 0x24 ∷ 0x85 ∷ 0x66 ∷ 0x69 ∷ 0x72 ∷ 0x73 ∷ 0x74 ∷ 0x05 ∷ []) 8 65_536 32_768
    ≡ 111 ∷ 107 ∷ 32 ∷ 54 ∷ 54 ∷ 54 ∷ 57 ∷ 55 ∷ 50 ∷ 55 ∷ 51 ∷ 55 ∷ 52 ∷ 61 ∷ 48 ∷ 53 ∷ 10 ∷ []
unfolding match_line worked outcome
long_name = refl

-- ($ . $) and 5: `no match 01`
dollar : match_line (0xff ∷ 0x24 ∷ 0x24 ∷ 0x05 ∷ []) 3 65_536 32_768 ≡ 110 ∷ 111 ∷ 32 ∷ 109 ∷ 97 ∷ 116 ∷ 99 ∷ 104 ∷ 32 ∷ 48 ∷ 49 ∷ 10 ∷ []
unfolding match_line worked outcome
dollar = refl

-- ((: . A) . (: . A)) and (5 . 6): the later of the two clashes, `no match 03`
clash : match_line (0xff ∷ 0xff ∷ 0x3a ∷ 0x41 ∷ 0xff ∷ 0x3a ∷ 0x41 ∷ 0xff ∷ 0x05 ∷ 0x06 ∷ []) 7 65_536 32_768 ≡ 110 ∷ 111 ∷ 32 ∷ 109 ∷ 97 ∷ 116 ∷ 99 ∷ 104 ∷ 32 ∷ 48 ∷ 51 ∷ 10 ∷ []
unfolding match_line worked outcome
clash = refl
