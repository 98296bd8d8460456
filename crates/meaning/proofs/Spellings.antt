-- Spellings of a length that are easy to misread, each with its outcome, computed over `run`. Assumes nothing.
use mathlib.Core.Path.{◌≡◌, refl}
use mathlib.Core.List.{List, [], ◌∷◌, map}
use mathlib.Core.Bool.{false}
use Rattle.refusals.specs.declared.Refusal.TheVariants.{EndsEarly, BadPrefix, AtomLong}
use Rattle.meaning.specs.Outcome.{refused}
use Rattle.meaning.specs.Run.{mark_number, finished, run}
use Rattle.meaning.proofs.Table.{Row}

unfoldable pub spellings_table : List Row
unfolding mark_number
spellings_table =
    -- an atom in every class of prefix
    record { form = 0x81 ∷ 0x05 ∷ []; outcome = finished (0x05 ∷ []) 0 5 false }
    ∷ record { form = 0xc0 ∷ 0x01 ∷ 0x05 ∷ []; outcome = finished (0x05 ∷ []) 0 5 false }
    ∷ record { form = 0xe0 ∷ 0x00 ∷ 0x01 ∷ 0x05 ∷ []; outcome = finished (0x05 ∷ []) 0 5 false }
    ∷ record { form = 0xf0 ∷ 0x00 ∷ 0x00 ∷ 0x01 ∷ 0x05 ∷ []; outcome = finished (0x05 ∷ []) 0 5 false }
    ∷ record { form = 0xf8 ∷ 0x00 ∷ 0x00 ∷ 0x00 ∷ 0x01 ∷ 0x05 ∷ []; outcome = finished (0x05 ∷ []) 0 5 false }
    -- an empty atom in any spelling is nil, and free
    ∷ record { form = 0xc0 ∷ 0x00 ∷ []; outcome = finished (0x80 ∷ []) 0 0 false }
    ∷ record { form = 0xe0 ∷ 0x00 ∷ 0x00 ∷ []; outcome = finished (0x80 ∷ []) 0 0 false }
    ∷ record { form = 0xf0 ∷ 0x00 ∷ 0x00 ∷ 0x00 ∷ []; outcome = finished (0x80 ∷ []) 0 0 false }
    ∷ record { form = 0xf8 ∷ 0x00 ∷ 0x00 ∷ 0x00 ∷ 0x00 ∷ []; outcome = finished (0x80 ∷ []) 0 0 false }
    -- a byte from `80` on behind spare prefix bytes
    ∷ record { form = 0xc0 ∷ 0x01 ∷ 0xff ∷ []; outcome = finished (0x81 ∷ 0xff ∷ []) 0 5 false }
    -- the stated length goes against the limit, before the body is missed
    ∷ record { form = 0xfb ∷ 0xff ∷ 0xff ∷ 0xff ∷ 0xff ∷ []; outcome = refused AtomLong }
    ∷ record { form = 0xc0 ∷ 0x41 ∷ []; outcome = refused AtomLong }
    -- no more prefix bytes are asked for
    ∷ record { form = 0xfc ∷ []; outcome = refused BadPrefix }
    ∷ record { form = 0xfd ∷ []; outcome = refused BadPrefix }
    ∷ record { form = 0xfe ∷ []; outcome = refused BadPrefix }
    -- a prefix byte is missing, or the body
    ∷ record { form = 0xc0 ∷ []; outcome = refused EndsEarly }
    ∷ record { form = 0xe0 ∷ 0x00 ∷ []; outcome = refused EndsEarly }
    ∷ record { form = 0xf0 ∷ 0x00 ∷ 0x00 ∷ []; outcome = refused EndsEarly }
    ∷ record { form = 0xfb ∷ 0x00 ∷ 0x00 ∷ 0x00 ∷ []; outcome = refused EndsEarly }
    ∷ record { form = 0xc0 ∷ 0x02 ∷ 0x05 ∷ []; outcome = refused EndsEarly }
    -- in code: `(f 1)`, its operator, its path and its end each with spare bytes
    ∷ record { form = 0xff ∷ 0x81 ∷ 0x05 ∷ 0xff ∷ 0xc0 ∷ 0x01 ∷ 0x01 ∷ 0xe0 ∷ 0x00 ∷ 0x00 ∷ []; outcome = finished (0x02 ∷ []) 1 31 false }
    ∷ []

pub spellings : map (λ r. run r.form 65_536 32_768) spellings_table ≡ map (λ r. r.outcome) spellings_table
unfolding run spellings_table
spellings = refl
