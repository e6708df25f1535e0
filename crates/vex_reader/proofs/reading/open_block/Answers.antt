use Rattle.std.proofs.Common.{◌≡◌, ◌∙◌, ap, List, ℕ, unwrap_or}
use Rattle.vex_reader.specs.declared.file.Block.{Block}
use Rattle.named_list.specs.Named.{named, put}
use Rattle.vex_reader.specs.Reading.{State, InBlock, block_at}
use Rattle.named_list.proofs.NamedLemmas.{put-put}
use Rattle.vex_reader.proofs.reading.open_block.Goals as goal

pub returns : goal.returns
returns c =
    let blocks = c.args.blocks in
    let name = c.args.name in
    let before : c.in_ok-before.before ≡ named blocks name = c.in_ok-before.ensures.before ∙ ap (named blocks) c.bytes.ensures in
    let block : c.unwrap_or-block.result ≡ block_at blocks name =
    c.unwrap_or-block.ensures ∙ (λ i. unwrap_or (before i) (c.empty_block-2.ensures i)) in
    let all : put c.put.new.self name c.unwrap_or-block.result ≡ put blocks name (block_at blocks name) =
    ap (λ held. put held name c.unwrap_or-block.result) (c.in_ok-before.ensures.put ∙ ap (λ n. put blocks n c.empty_block.result) c.bytes.ensures)
    ∙ put-put blocks name c.empty_block.result c.unwrap_or-block.result
    ∙ ap (put blocks name) block in
    ap (λ (held : List (List ℕ × Block)). let state : State = record { blocks = held; place = InBlock name } in state) all
