-- The exit status and the words of a refusal.
use Rattle.std.specs.Prelude.{ℕ, List, ◌++◌, codes}
use Rattle.std.specs.Fmt.{decimal}
use Rattle.qc_work.specs.declared.refusal.File.{File}
use Rattle.qc_work.specs.declared.refusal.File.TheVariants.{Schema, Query, Input, Script}
use Rattle.qc_work.specs.declared.refusal.Refusal.{Refusal}
use Rattle.qc_work.specs.declared.refusal.Refusal.TheVariants.{Usage, ReadFault, TooLong, BadSchema, BadScan}
use Rattle.qc_work.specs.declared.refusal.Refusal.TheVariants.{TooManyTokens, BadSyntax, BadType}
use Rattle.qc_work.specs.declared.refusal.Refusal.TheVariants.{BadInput, BadJs, Range, Stuck, WriteFault, Memory}

-- the exit status of a call that is refused
abbrev pub status_of : Refusal → ℕ
status_of Usage = 2
status_of (ReadFault file) = 3
status_of (TooLong file) = 1
status_of BadSchema = 1
status_of (BadScan file at) = 1
status_of TooManyTokens = 1
status_of (BadSyntax at) = 1
status_of (BadType at) = 1
status_of BadInput = 1
status_of BadJs = 1
status_of Range = 6
status_of Stuck = 7
status_of WriteFault = 4
status_of Memory = 5

-- the word of a file
abbrev pub file_word : File → List ℕ
file_word Schema = codes "schema"
file_word Query = codes "query"
file_word Input = codes "input"
file_word Script = codes "script"

-- what is told of a refusal
abbrev pub refusal_text : Refusal → List ℕ
refusal_text Usage = codes "Usage"
refusal_text (ReadFault file) = codes "ReadFault " ++ file_word file
refusal_text (TooLong file) = codes "TooLong " ++ file_word file
refusal_text BadSchema = codes "BadSchema"
refusal_text (BadScan file at) = codes "BadScan at byte " ++ decimal at ++ codes " of " ++ file_word file
refusal_text TooManyTokens = codes "TooManyTokens"
refusal_text (BadSyntax at) = codes "BadSyntax at token " ++ decimal at
refusal_text (BadType at) = codes "BadType at token " ++ decimal at
refusal_text BadInput = codes "BadInput"
refusal_text BadJs = codes "BadJs"
refusal_text Range = codes "Range"
refusal_text Stuck = codes "Stuck"
refusal_text WriteFault = codes "WriteFault"
refusal_text Memory = codes "Memory"
