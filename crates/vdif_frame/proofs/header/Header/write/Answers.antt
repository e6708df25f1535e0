use Rattle.std.proofs.Common.{◌≡◌, drop, ap, subst, sym, ◌∙◌}
use Rattle.vdif_frame.specs.Header.{HeaderFields, AreInRange, fields_of}
use Rattle.vdif_frame.specs.Shape.{head_bytes}
use Rattle.vdif_frame.proofs.Bytes.{fields_of-header_bytes, extended_bytes, legacy_bytes, words_before}
use Rattle.vdif_frame.proofs.header.Header.write.Goals as goal

pub returns-then-not-self-clause-bytes : goal.returns-then-not-self-clause-bytes
returns-then-not-self-clause-bytes c =
    let words : c.write_words.new.out ≡ words_before c.args.self.now (drop 16 c.args.out.now) = rw c.words.ensures at c.write_words.ensures in
    let legacy = sym (ap (λ (h : HeaderFields). h.legacy) c.self.view_is) ∙ c.if-not-self.true in
    let extended = c.copy_from_slice.ensures.after ∙ ap (λ (h : HeaderFields). h.extended) c.self.view_is in
    extended_bytes c.args.self.now c.args.out.now _ _ legacy words extended

pub returns-else-not-self-clause-bytes : goal.returns-else-not-self-clause-bytes
returns-else-not-self-clause-bytes c =
    let words : c.write_words.new.out ≡ words_before c.args.self.now (drop 16 c.args.out.now) = rw c.words.ensures at c.write_words.ensures in
    let legacy = sym (ap (λ (h : HeaderFields). h.legacy) c.self.view_is) ∙ c.if-not-self.false in
    words ∙ legacy_bytes c.args.self.now c.args.out.now legacy

pub returns-then-not-self-clause-reads_back : goal.returns-then-not-self-clause-reads_back
returns-then-not-self-clause-reads_back c =
    fields_of-header_bytes c.args.self.now (subst AreInRange c.self.view_is c.self.invariant)

pub returns-else-not-self-clause-reads_back : goal.returns-else-not-self-clause-reads_back
returns-else-not-self-clause-reads_back c =
    fields_of-header_bytes c.args.self.now (subst AreInRange c.self.view_is c.self.invariant)

pub returns-then-not-self-clause-fields : goal.returns-then-not-self-clause-fields
returns-then-not-self-clause-fields c =
    ap fields_of (returns-then-not-self-clause-bytes c)
    ∙ fields_of-header_bytes c.args.self.now (subst AreInRange c.self.view_is c.self.invariant) (drop (head_bytes c.args.self.now.legacy) c.args.out.now)

pub returns-else-not-self-clause-fields : goal.returns-else-not-self-clause-fields
returns-else-not-self-clause-fields c =
    ap fields_of (returns-else-not-self-clause-bytes c)
    ∙ fields_of-header_bytes c.args.self.now (subst AreInRange c.self.view_is c.self.invariant) (drop (head_bytes c.args.self.now.legacy) c.args.out.now)
