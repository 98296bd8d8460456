-- Document 01, "Numbers that bound a run", and the requests of 02: the number of each refusal, and what it leaves of the room.
use Rattle.std.specs.Prelude.{ℕ, Bool, true, false}
use Rattle.refusals.specs.declared.Refusal.{Refusal}
use Rattle.refusals.specs.declared.Refusal.TheVariants.{RoomSmall, FormLong, EndsEarly, BadPrefix, AtomLong, BytesAfter, UnitsOut, Fails, NoOperator, StepsOut, PathLong, PassesOut, TooDeep, OutputShort, NoParse, TextLong, ReportFull, NotATrace, TraceCut, TraceLong}

-- 01's table; 15 and 16 are of the notation (02, "Ask 1"), 17 is of the report over a list of forms ("Ask 2"), 18 to 20 are of traces ("Ask 5")
abbrev pub number_of : Refusal → ℕ
number_of RoomSmall = 1
number_of FormLong = 2
number_of EndsEarly = 3
number_of BadPrefix = 4
number_of AtomLong = 5
number_of BytesAfter = 6
number_of UnitsOut = 7
number_of Fails = 8
number_of NoOperator = 9
number_of StepsOut = 10
number_of PathLong = 11
number_of PassesOut = 12
number_of TooDeep = 13
number_of OutputShort = 14
number_of NoParse = 15
number_of TextLong = 16
number_of ReportFull = 17
number_of NotATrace = 18
number_of TraceCut = 19
number_of TraceLong = 20

-- "Lent working room is all zero after any return but refusal 1, which leaves it unchanged": whether a refusal comes before the room is touched
abbrev pub leaves_room : Refusal → Bool
leaves_room RoomSmall = true
leaves_room FormLong = false
leaves_room EndsEarly = false
leaves_room BadPrefix = false
leaves_room AtomLong = false
leaves_room BytesAfter = false
leaves_room UnitsOut = false
leaves_room Fails = false
leaves_room NoOperator = false
leaves_room StepsOut = false
leaves_room PathLong = false
leaves_room PassesOut = false
leaves_room TooDeep = false
leaves_room OutputShort = false
leaves_room NoParse = false
leaves_room TextLong = false
leaves_room ReportFull = false
leaves_room NotATrace = false
leaves_room TraceCut = false
leaves_room TraceLong = false
