use Rattle.std.proofs.Common.{◌≡◌, ◌++◌, List, ℕ, rules, ap, ◌∙◌}
use Rattle.sb_bytes.specs.Field.{with_number}
use Rattle.sb_heap.proofs.keys.key_of.Goals as goal

pub returns : goal.returns
unfolding with_number
returns c =
    let joined : c.extend_from_slice.new.self.items ≡ c.in_ok-bytes.bytes.items ++ c.args.slot.now = search rules in
    c.from_vec.ensures ∙ joined ∙ ap (λ (l : List ℕ). l ++ c.args.slot.now) (c.in_ok-bytes.ensures ∙ c.put_u32.ensures)
