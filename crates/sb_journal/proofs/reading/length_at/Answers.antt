use Rattle.std.proofs.Common.{rules, ◌≡◌, length, ℕ, Option, Some, None, List, take, drop, sym, ◌∙◌, ap}
use Rattle.std.specs.Int.{to_be_bytes, w32}
use Rattle.sb_disk.specs.Disk.{Story, Reads}
use Rattle.sb_journal.specs.Opening.{LengthIs}
use Rattle.sb_journal.proofs.reading.length_at.Goals as goal

length_is : (told : Option Story) (at n : ℕ) (bytes : List ℕ) → length bytes ≡ 4 → to_be_bytes w32 n ≡ bytes → Reads told at bytes → LengthIs told at n
length_is None at n bytes four is reads = tt
length_is (Some s) at n bytes four is reads = sym (reads ∙ ap (λ (k : ℕ). take k (drop at s.now.reads)) four) ∙ sym is

pub returns-clause-length : goal.returns-clause-length
returns-clause-length g c =
    let four : length c.read_at.new.buffer ≡ 4 = search rules in
    length_is _ c.args.at _ c.read_at.new.buffer four (search rules) c.in_ok-read_at.ensures.ok
