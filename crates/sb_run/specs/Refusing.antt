-- What is written where no run begins.
use Rattle.std.specs.Prelude.{◌≡◌, ◌⊎◌, ℕ, codes, List, [], ◌∷◌, ◌++◌, Option}
use Rattle.std.specs.List.{flat_map}
use Rattle.std.specs.Fmt.{decimal}
use Rattle.sb_disk.specs.Streams.{Given}
use Rattle.sb_recover.specs.declared.fault.OpenFault.{OpenFault}
use Rattle.sb_recover.specs.declared.fault.OpenFault.TheVariants as fault
use Rattle.sb_sound_plays.specs.Ending.{BreaksOff}
use Rattle.sb_run.specs.declared.report.Report.{Report}

-- ---- lines
-- what is written for words that clap refuses
abbrev pub words_line : List ℕ
words_line = codes "? words\n"

-- numbers, each behind a blank, and the line's end
abbrev pub numbers_text : List ℕ → List ℕ
numbers_text numbers = flat_map (λ n. codes " " ++ decimal n) numbers ++ codes "\n"

-- the line that says why no store was opened
abbrev pub refusal_line : OpenFault → List ℕ
refusal_line fault.Fault = []
refusal_line (fault.TooSmall have need) = codes "? toosmall" ++ numbers_text (have ∷ need ∷ [])
refusal_line fault.NotStore = codes "? notstore" ++ numbers_text []
refusal_line (fault.BadLog chunk offset) = codes "? badlog" ++ numbers_text (chunk ∷ offset ∷ [])
refusal_line (fault.MissingExtension code) = codes "? missingextension" ++ numbers_text (code ∷ [])
refusal_line (fault.Damaged page) = codes "? damaged" ++ numbers_text (page ∷ [])
refusal_line (fault.BadExtensions code) = codes "? badextensions" ++ numbers_text (code ∷ [])
refusal_line fault.AlreadyStore = codes "? alreadystore" ++ numbers_text []
refusal_line fault.NoMemory = []

-- the exit status
abbrev pub status_by : OpenFault → ℕ
status_by fault.Fault = 3
status_by fault.NoMemory = 7
status_by e = 6

-- ---- runs that are refused
-- nothing was written, and the run ends with this status
pub record WritesNothing (ended : ℕ) (held new : Option (List ℕ)) (report : Report) : Type 0 where
  pub status : report.status ≡ ended
  pub starts : report.starts ≡ []
  pub same : new ≡ held

-- The line of a refusal was written, or a front that lacks its end to a sink that failed.
pub record WritesLine (refused : ℕ) (line : List ℕ) (held new : Option (List ℕ)) (report : Report) : Type 0 where
  pub starts : report.starts ≡ []
  pub written : List ℕ
  pub is_written : Given held new written
  pub status : ((report.status ≡ refused) × (written ≡ line)) ⊎ ((report.status ≡ 5) × BreaksOff written line)

abbrev pub RefusesWords : Option (List ℕ) → Option (List ℕ) → Report → Type 0
RefusesWords held new report = WritesLine 2 words_line held new report

-- The line was written, or memory was wanting to print it; a fault of the disk and want of memory have none.
abbrev pub IsRefusedBy : OpenFault → Option (List ℕ) → Option (List ℕ) → Report → Type 0
IsRefusedBy e held new report = WritesLine (status_by e) (refusal_line e) held new report ⊎ WritesNothing 7 held new report
