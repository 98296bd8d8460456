-- A number belongs to one refusal, and none is 0. Assumes nothing.
use mathlib.Core.Path.{◌≡◌, refl}
use Prim.Native.Nat.{◌+◌, ◌≤◌}
use native.Mathlib.Omega.{arith}
use denote.Enum.Declared.{tag_of}
use denote.Enum.Bare.{tag_one}
use Rattle.refusals.specs.declared.Refusal.{Refusal}
use Rattle.refusals.specs.declared.Refusal.TheVariants.{RoomSmall, FormLong, EndsEarly, BadPrefix, AtomLong, BytesAfter, UnitsOut, Fails, NoOperator, StepsOut, PathLong, PassesOut, TooDeep, OutputShort, NoParse, TextLong, ReportFull, NotATrace, TraceCut, TraceLong}
use Rattle.refusals.specs.contracts.Refusal.{the_type}
use Rattle.refusals.specs.Numbers.{number_of}

-- the numbers go by the variants' places, from 1 on
placed : (n : Refusal) → number_of n ≡ tag_of the_type n + 1
placed RoomSmall = refl
placed FormLong = refl
placed EndsEarly = refl
placed BadPrefix = refl
placed AtomLong = refl
placed BytesAfter = refl
placed UnitsOut = refl
placed Fails = refl
placed NoOperator = refl
placed StepsOut = refl
placed PathLong = refl
placed PassesOut = refl
placed TooDeep = refl
placed OutputShort = refl
placed NoParse = refl
placed TextLong = refl
placed ReportFull = refl
placed NotATrace = refl
placed TraceCut = refl
placed TraceLong = refl

pub number_only : (m n : Refusal) → number_of m ≡ number_of n → m ≡ n
number_only m n e = tag_one the_type tt m n (omega (arith, placed m, placed n, e))

pub number_least : (n : Refusal) → 1 ≤ number_of n
number_least n = omega (arith, placed n)
