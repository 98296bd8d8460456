-- take_tokens: token by token, until the text ends or does not parse. Assumes nothing.
use Prim.Native.Nat.{◌-◌, ◌+◌}
use mathlib.Core.Path.{◌≡◌}
use lib.ListN.{length}
use Rattle.text_reader.proofs.ConvertLaws as laws
use Rattle.text_reader.proofs.convert.take_tokens.Given as goal

abbrev pub invariant-tokens : goal.invariant-tokens
invariant-tokens l = laws.Going l.text l.frames l.form l.r × ((length l.frames ≡ length l.initial.frames) × ((length l.room ≡ length l.initial.room) × (length l.form ≡ length l.initial.form)))

abbrev pub decreases-tokens : goal.decreases-tokens
decreases-tokens l = length l.text + 1 - l.r.at
