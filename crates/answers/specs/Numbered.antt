-- What stands behind the number of a reason or of a file, where there is one.
use Rattle.std.specs.Prelude.{◌≡◌, ◌≢◌, ℕ, Result, MatchResult}
use Rattle.files.specs.Numbers as N
use Rattle.answers.specs.Refused.{reason_of, file_of}
use Rattle.answers.specs.declared.Reason.{Reason}
use Rattle.answers.specs.declared.File.{File}
use Rattle.answers.specs.declared.UnknownReason.{UnknownReason}
use Rattle.answers.specs.declared.UnknownFile.{UnknownFile}

-- the reason that has the number, or an error with a number that no reason has
abbrev pub IsReasonNumbered : ℕ → Result Reason UnknownReason → Type 0
IsReasonNumbered number r =
    MatchResult r (λ reason. N.refusal_number (reason_of reason) ≡ number) (λ e. (e.0 ≡ number) × ((reason : Reason) → N.refusal_number (reason_of reason) ≢ number))

-- the file that has the number, or an error with a number that no file has
abbrev pub IsFileNumbered : ℕ → Result File UnknownFile → Type 0
IsFileNumbered number r =
    MatchResult r (λ file. N.file_number (file_of file) ≡ number) (λ e. (e.0 ≡ number) × ((file : File) → N.file_number (file_of file) ≢ number))
