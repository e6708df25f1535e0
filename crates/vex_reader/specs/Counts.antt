-- How much a text has room for.
use Rattle.std.specs.Prelude.{ℕ, ◌≤◌, List, length, IfSome}
use Rattle.vex_reader.specs.declared.file.Block.{Block}
use Rattle.named_list.specs.Named.{named}

-- Each of some blocks has at most `n` scans.
abbrev pub HasAtMostScans : ℕ → List (List ℕ × Block) → Type 0
HasAtMostScans n blocks = (name : List ℕ) → IfSome (named blocks name) (λ block. length block.scans ≤ n)
