use Rattle.std.proofs.Common.{rules, ◌≡◌, ◌==◌, ◌<◌, ℕ, List, [], ◌∷◌, length, take, drop, ◌+◌, sym, ap, ◌∙◌, arith}
use Rattle.std.proofs.lemmas.List.{take_all}
use Rattle.std.specs.List.{position_or_len, before_first, after_first}
use Rattle.std.specs.Str.Lines.{strip_carriage_return}
use Rattle.std.specs.Str.Lines.{lines}
use Rattle.job_lines.proofs.LineLemmas.{lines-first, lines-last}
use Rattle.job_lines.proofs.lines.Lines.next_line.Goals as goal

pub returns-then-end-self : goal.returns-then-end-self
returns-then-end-self c =
    let text : List ℕ = c.self.inside.rest.now in
    let some : 0 < length text = search rules in
    let whole : c.len_before-end.result ≡ length text = search rules in
    let place : position_or_len (λ b. b == 10) text ≡ length text = sym c.len_before-end.ensures.place ∙ whole in
    let held : c.args.self.now ≡ lines text = search rules in
    let all : take c.len_before-end.result text ≡ text = take_all c.len_before-end.result text (omega (arith, whole)) in
    held ∙ lines-last text some place ∙ ap (λ line. line ∷ []) (sym all)

pub returns : goal.returns
returns c =
    let text : List ℕ = c.self.inside.rest.now in
    let held : c.args.self.now ≡ lines text = search rules in
    let short : c.len_before-end.result < length text = search rules in
    let inside : position_or_len (λ b. b == 10) text < length text = omega (arith, c.len_before-end.ensures.place, short) in
    let line : c.without_return.result.now ≡ strip_carriage_return (take c.len_before-end.result text) = search rules in
    let place : position_or_len (λ b. b == 10) text ≡ c.len_before-end.result = sym c.len_before-end.ensures.place in
    let first : strip_carriage_return (before_first (λ b. b == 10) text) ≡ c.without_return.result.now =
    ap (λ n. strip_carriage_return (take n text)) place ∙ sym line in
    let rest : after_first (λ b. b == 10) text ≡ c.behind-self-inside.result.now = ap (λ n. drop (n + 1) text) place ∙ sym c.behind-self-inside.ensures in
    held ∙ lines-first text inside ∙ ap (λ x. x ∷ lines (after_first (λ b. b == 10) text)) first
    ∙ ap (λ x. c.without_return.result.now ∷ lines x) rest
