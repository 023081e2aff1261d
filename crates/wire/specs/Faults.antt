-- The number of each refusal.
use Rattle.std.specs.Prelude.{ℕ}
use Rattle.wire.specs.declared.fault.Fault.{Fault}
use Rattle.wire.specs.declared.fault.Fault.TheVariants.{NoSuchBoard, NoSuchAddress, AccessOpen, BoardsOutOfRange, PagesOutOfRange, LimitTooLow, LinkNotEmpty, LimitOutOfRange, LinkFull, WrongLength, NoSuchKind, BadParties, PageOrHopsTooLarge, BrokenKindForm, DoesNotBelong, NotExpected, BadForm, OutOfPlace}

abbrev pub number : Fault → ℕ
number NoSuchBoard = 1
number NoSuchAddress = 2
number AccessOpen = 3
number BoardsOutOfRange = 4
number PagesOutOfRange = 5
number LimitTooLow = 6
number LinkNotEmpty = 7
number LimitOutOfRange = 8
number LinkFull = 9
number WrongLength = 10
number NoSuchKind = 11
number BadParties = 12
number PageOrHopsTooLarge = 13
number BrokenKindForm = 14
number DoesNotBelong = 15
number NotExpected = 16
number BadForm = 17
number OutOfPlace = 18
