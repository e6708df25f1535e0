-- Options and words of a command, and what words give them, as `clap` defines it.
use Rattle.std.specs.Prelude.{◌≡◌, ◌⊎◌, true, List, [], ◌∷◌, Option, Some, None, Result, Ok, Err, codes}
use Rattle.std.specs.Option.{option_map_or}
use Rattle.clap.specs.Words.{App, Rule, Row, Text, Kinds, new_app, new_rule, with_rule, fault_of, matches_of, rows_of, found_of, first_of, all_of}
use Rattle.clap.specs.Simple.{on_top}
use Rattle.clap.specs.declared.builder.action.ArgAction.TheVariants.{Set, Append}
use Rattle.clap.specs.declared.parser.matches.ArgMatches.{ArgMatches}
use Rattle.clap.specs.declared.error.kind.ErrorKind.{ErrorKind}
use Rattle.clap.specs.declared.error.kind.ErrorKind.TheVariants.{OutOfMemory}
use Rattle.run_words.specs.declared.fault.WordsFault.{WordsFault}
use Rattle.run_words.specs.declared.fault.WordsFault.TheVariants.{Option as OptionFault, Memory}

-- an option with a value
abbrev pub option_rule : Text → Rule
option_rule name = record (new_rule name) { long = Some name; action = Some Set }

-- an option with a value that has to be there
abbrev pub needed_option : Text → Rule
needed_option name = record (new_rule name) { long = Some name; action = Some Set; required = true }

-- a word that has to be there
abbrev pub needed_word : Text → Rule
needed_word name = record (new_rule name) { action = Some Set; required = true }

-- words of which one has to be there, and any number may be
abbrev pub needed_words : Text → Rule
needed_words name = record (new_rule name) { action = Some Append; required = true }

-- a command of which all words are options and their values
abbrev pub bare_app : Text → App
bare_app name = on_top (λ s. record s { no_binary_name = true }) (new_app name)

-- a command with the number of workers and the samples of a piece
abbrev pub work_app : App → App
work_app app = with_rule (with_rule app (needed_option (codes "workers"))) (needed_option (codes "piece"))

abbrev pub unless_refused : Kinds → List Row → Option (List Row)
unless_refused [] rows = Some rows
unless_refused (kind ∷ kinds) rows = None

-- what the words give each option, none where they are refused
unfoldable pub rows_in : App → List Text → Option (List Row)
rows_in app words = unless_refused (fault_of app words) (matches_of app words)

-- an error of `clap`: a request for help is one too
abbrev pub kind_fault : ErrorKind → WordsFault
kind_fault OutOfMemory = Memory
kind_fault _ = OptionFault

-- the matches are those that are wanted, or there is a fault because there are none
abbrev pub Parses : Option (List Row) → Result ArgMatches WordsFault → Type 0
Parses wanted (Ok matches) = wanted ≡ Some (rows_of (found_of matches))
Parses wanted (Err fault) = (fault ≡ Memory) ⊎ ((fault ≡ OptionFault) × (wanted ≡ None))

-- one step behind another, unless that one ends in a fault
infixl 10 ◌>>=◌
abbrev pub ◌>>=◌ : {A B : Type 0} → Result A WordsFault → (A → Result B WordsFault) → Result B WordsFault
(Ok x) >>= f = f x
(Err fault) >>= f = Err fault

-- the text of an option or a word that has to be there
unfoldable pub needed : Text → List Row → Result Text WordsFault
needed name rows = option_map_or Ok (first_of name rows) (Err OptionFault)

-- texts, of which there has to be one
abbrev pub unless_none : List Text → Result (List Text) WordsFault
unless_none [] = Err OptionFault
unless_none (text ∷ texts) = Ok (text ∷ texts)

-- the texts of words of which one has to be there, in their order
unfoldable pub all_needed : Text → List Row → Result (List Text) WordsFault
all_needed name rows = option_map_or unless_none (all_of name rows) (Err OptionFault)

-- what is read of the text of an option that may be absent, where it is there
unfoldable pub given : {A : Type 0} → Text → (Text → Result A WordsFault) → List Row → Result (Option A) WordsFault
given name read rows = option_map_or (λ text. read text >>= λ x. Ok (Some x)) (first_of name rows) (Ok None)

-- what is read of the words that a command takes
unfoldable pub taken_by : {A : Type 0} → App → (List Row → Result A WordsFault) → List Text → Result A WordsFault
taken_by app read words = option_map_or read (rows_in app words) (Err OptionFault)
