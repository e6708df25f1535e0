-- The state that the program's reading stands for.
use Rattle.std.specs.Prelude.{ℕ, List}
use Rattle.vex_reader.specs.declared.file.Block.{Block}
use Rattle.vex_reader.specs.declared.reading.Reading.{Reading}
use Rattle.vex_reader.specs.declared.reading.Place.{Place as ProgramPlace}
use Rattle.vex_reader.specs.declared.reading.Place.TheVariants.{Before as AtBefore, Outside as AtOutside, InBlock as AtBlock, InItem as AtItem}
use Rattle.named_list.specs.Named.{put}
use Rattle.vex_reader.specs.Reading.{Place, Before, Outside, InBlock, InItem, State}

-- The place, with the open block by its name.
abbrev pub place_of : ProgramPlace → Place
place_of AtBefore = Before
place_of AtOutside = Outside
place_of (AtBlock held) = InBlock held.name
place_of (AtItem held item) = InItem held.name item.kind item.name item.item

-- The blocks, with the open one among them.
abbrev pub blocks_of : List (List ℕ × Block) → ProgramPlace → List (List ℕ × Block)
blocks_of blocks AtBefore = blocks
blocks_of blocks AtOutside = blocks
blocks_of blocks (AtBlock held) = put blocks held.name held.block
blocks_of blocks (AtItem held item) = put blocks held.name held.block

abbrev pub state_of : Reading → State
state_of reading = record { blocks = blocks_of reading.blocks reading.place; place = place_of reading.place }
