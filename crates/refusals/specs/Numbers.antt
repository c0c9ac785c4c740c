-- The number of each refusal, as contracts speak of it. Assumes nothing.
use Rattle.std.specs.Prelude.{ℕ, Ok, Err, Result}
use Rattle.refusals.specs.declared.Refusal.{Refusal}
use Rattle.refusals.specs.declared.Refusal.TheVariants.{
  NoSuchPlace,
  ValueTooLarge,
  MemoryTooShort,
  FormatOutsideLimits,
  NoSuchField,
  StoreOrMapUnfit,
  PacketTooLong,
  NotRtp,
  HeaderPastEnd,
  OtherStream,
  RowHeadersCut,
  LengthNotWhole,
  RowOutsidePart,
  OffsetOutsideRow,
  SegmentsOutOfOrder,
  RowDataTooShort,
  RowDataLeftOver,
  BlockNotWhole,
  BufferTooShort,
  LineTooLong,
  EntryMalformed,
  NameRepeated,
  ValueNotPermitted,
  NameMissing,
  NamesAtOdds,
}

abbrev pub number_of : Refusal → ℕ
number_of NoSuchPlace = 1
number_of ValueTooLarge = 2
number_of MemoryTooShort = 3
number_of FormatOutsideLimits = 4
number_of NoSuchField = 5
number_of StoreOrMapUnfit = 6
number_of PacketTooLong = 7
number_of NotRtp = 8
number_of HeaderPastEnd = 9
number_of OtherStream = 10
number_of RowHeadersCut = 11
number_of LengthNotWhole = 12
number_of RowOutsidePart = 13
number_of OffsetOutsideRow = 14
number_of SegmentsOutOfOrder = 15
number_of RowDataTooShort = 16
number_of RowDataLeftOver = 17
number_of BlockNotWhole = 18
number_of BufferTooShort = 19
number_of LineTooLong = 20
number_of EntryMalformed = 21
number_of NameRepeated = 22
number_of ValueNotPermitted = 23
number_of NameMissing = 24
number_of NamesAtOdds = 25

-- an answer, with a refusal as its number
abbrev pub numbered : {T : Type 0} → Result T Refusal → Result T ℕ
numbered (Ok x) = Ok x
numbered (Err e) = Err (number_of e)
