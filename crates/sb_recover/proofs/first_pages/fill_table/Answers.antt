use Rattle.std.proofs.Common.{rules, ◌≡◌, ◌*◌, length, sym, arith}
use Rattle.sb_recover.proofs.FirstPageLemmas.{owner_entries-none, owner_entries-put}
use Rattle.sb_recover.proofs.first_pages.fill_table.Goals as goal

pub loop-k-init : goal.loop-k-init
loop-k-init c = sym (owner_entries-none c.args.pages (2048 * c.args.p))

pub loop-k-preserved : goal.loop-k-preserved
loop-k-preserved c =
    let long : length c.loop-k.page ≡ 4096 = search rules in
    let end = c.loop-k.auto.k-end in
    let test = c.loop-k-test.true in
    owner_entries-put c.args.pages (2048 * c.args.p) c.loop-k.k c.owner.result c.loop-k.page c.put_u16.new.b (omega arith) (search rules) (search rules) c.loop-k.invariant
