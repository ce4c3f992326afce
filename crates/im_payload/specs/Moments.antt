-- Moments in payloads, spelled as stamps (XEP-0082).
use Rattle.std.specs.Prelude.{ℕ, min, List, Option}
use Rattle.std.specs.Option.{option_and_then}
use Rattle.std.specs.Result.{result_ok}
use Rattle.im_stamp.specs.StampReading.{moment_of}
use Rattle.im_stamp.specs.Stamps.{IsWritten}

-- the moment that a text is the stamp of, where it is one from 1970 on
abbrev pub moment_in : Option (List ℕ) → Option ℕ
moment_in given = option_and_then (λ text. result_ok (moment_of text)) given

-- the stamp that is written for a moment; for one past the last that has a stamp, that of the last
abbrev pub IsStampOf : ℕ → List ℕ → Type 0
IsStampOf ms text = IsWritten (min ms 253402207200000) text
