use Rattle.std.proofs.Common.{◌≡◌, List, [], length, ap, sym, ◌∙◌, arith, eqb-true, eq-eqb, true≢false}
use Rattle.std.specs.Vec.{vec_len}
use Rattle.sb_memory.specs.declared.slots.Write.{Write}
use Rattle.sb_drive.specs.Slots.{Slots, owned}
use Rattle.sb_memory.specs.Contents.{slots}
use Rattle.sb_memory.specs.Writes.{written}
use Rattle.sb_memory.proofs.StoresLemmas.{made_pages, Adds-made, AreAmong-Adds, ArePagesTo-Adds, owned-stored, owned-others, none_written}
use Rattle.sb_memory.proofs.WritesLemmas.{no_writes}
use Rattle.sb_memory.proofs.stores.store.Goals as goal

pub returns-then-is_empty-clause-pages : goal.returns-then-is_empty-clause-pages
returns-then-is_empty-clause-pages c =
    let s = slots c.args.memory.now.now in
    let owner = c.args.owner in
    let ctx = c.args.ctx.now in
    let ws = c.add_freed.new.writes.items in
    let all = Adds-made s owner ctx c.new-writes.result.items c.add_edited.new.writes.items ws c.new-writes.ensures.items c.in_ok-add_edited.ensures c.in_ok-add_freed.ensures in
    let size : vec_len c.add_freed.new.writes ≡ 0 = eqb-true (vec_len c.add_freed.new.writes) 0 (sym c.is_empty.ensures ∙ c.if-is_empty.true) in
    let none : ws ≡ [] = no_writes ws (omega (arith, c.add_freed.new.writes.ok.0)) in
    λ part. ap (λ (xs : List Write). owned (written xs s) owner) (sym none) ∙ owned-stored s owner ctx ws c.is_ctx.ensures.sound part all

pub write-requires : goal.write-requires
write-requires c =
    let s = slots c.args.memory.now.now in
    let owner = c.args.owner in
    let ctx = c.args.ctx.now in
    let ws = c.add_freed.new.writes.items in
    let all = Adds-made s owner ctx c.new-writes.result.items c.add_edited.new.writes.items ws c.new-writes.ensures.items c.in_ok-add_edited.ensures c.in_ok-add_freed.ensures in
    record { among = AreAmong-Adds s owner ctx (made_pages ctx) ws all; whole = ArePagesTo-Adds s owner ctx (made_pages ctx) ws all }

pub returns-clause-pages : goal.returns-clause-pages
returns-clause-pages c =
    let s = slots c.args.memory.now.now in
    let owner = c.args.owner in
    let ctx = c.args.ctx.now in
    let ws = c.add_freed.new.writes.items in
    let all = Adds-made s owner ctx c.new-writes.result.items c.add_edited.new.writes.items ws c.new-writes.ensures.items c.in_ok-add_edited.ensures c.in_ok-add_freed.ensures in
    λ part. ap (λ (f : Slots). owned f owner) c.in_ok-write.ensures.now ∙ owned-stored s owner ctx ws c.is_ctx.ensures.sound part all

pub returns-clause-others : goal.returns-clause-others
returns-clause-others c =
    let s = slots c.args.memory.now.now in
    let owner = c.args.owner in
    let ctx = c.args.ctx.now in
    let ws = c.add_freed.new.writes.items in
    let all = Adds-made s owner ctx c.new-writes.result.items c.add_edited.new.writes.items ws c.new-writes.ensures.items c.in_ok-add_edited.ensures c.in_ok-add_freed.ensures in
    record {
      others = λ o other. ap (λ (f : Slots). owned f o) c.in_ok-write.ensures.now ∙ owned-others s owner o ctx ws all other;
      grows = c.in_ok-write.ensures.grows;
    }

pub returns-clause-none : goal.returns-clause-none
returns-clause-none c = λ none.
    let s = slots c.args.memory.now.now in
    let owner = c.args.owner in
    let ctx = c.args.ctx.now in
    let ws = c.add_freed.new.writes.items in
    let all = Adds-made s owner ctx c.new-writes.result.items c.add_edited.new.writes.items ws c.new-writes.ensures.items c.in_ok-add_edited.ensures c.in_ok-add_freed.ensures in
    let size : length ws ≡ 0 = none_written s owner ctx ws none all in
    absurd (true≢false (sym (eq-eqb (vec_len c.add_freed.new.writes) 0 (omega (arith, c.add_freed.new.writes.ok.0))) ∙ sym c.is_empty.ensures ∙ c.if-is_empty.false))
