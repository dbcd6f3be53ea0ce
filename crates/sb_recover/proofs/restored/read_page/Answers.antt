use Rattle.std.proofs.Common.{◌≡◌, ℕ, List, length, sym, ap, subst, arith}
use Rattle.std.proofs.lemmas.List.{with_items_is}
use Rattle.sb_recover.specs.Frames.{IsPageOf}
use Rattle.sb_recover.proofs.RestoredLemmas.{IsPageOf-reads}
use Rattle.sb_recover.proofs.restored.read_page.Goals as goal

pub returns-clause-page : goal.returns-clause-page
returns-clause-page g c =
    let v : length c.deref_mut.result.now ≡ length c.in_ok-bytes.bytes.items = ap (λ (l : List ℕ). length l) c.deref_mut.ensures.value in
    let l = c.in_ok-bytes.ensures.len in let ok = c.in_ok-bytes.bytes.ok.0 in let kept = c.read_at.auto.buffer in
    subst (λ (b : List ℕ). IsPageOf (g.D.Disk.told c.args.disk.now) c.args.g.now c.args.page b) (sym (with_items_is c.in_ok-bytes.bytes c.read_at.new.buffer (omega (arith, v, ok, kept))))
    (IsPageOf-reads (g.D.Disk.told c.args.disk.now) c.args.g.now c.args.page c.place_of.result c.read_at.new.buffer (omega (arith, v, l, ok, kept)) c.place_of.ensures c.in_ok-read_at.ensures.ok)
