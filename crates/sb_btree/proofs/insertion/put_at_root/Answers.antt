use Rattle.std.proofs.Common.{sym, subst}
use Rattle.std.specs.Prelude.{Bool, Ok}
use Rattle.std.proofs.lemmas.Result.{err_from_is_err_and}
use Rattle.sb_btree.specs.Inserts.{PutsAt, OverPlaces}
use Rattle.sb_btree.specs.declared.insertion.Put.{Put}
use Rattle.sb_btree.specs.declared.insertion.Put.TheVariants.{Split}
use Rattle.sb_btree.proofs.Inserted.{root_way, stop_inserts, grow_inserts, stands_inserts, done_inserts, split_inserts}
use Rattle.sb_btree.proofs.Room.{stop_asks, grow_asks}
use Rattle.sb_btree.proofs.insertion.put_at_root.Goals as goal

pub returns-in_err-put_below-clause-puts : goal.returns-in_err-put_below-clause-puts
returns-in_err-put_below-clause-puts c =
    let p = err_from_is_err_and c.from_residual.result c.from_residual.ensures.1 in
    rw (p.1, p.2) (stop_inserts c.args.stands c.args.ctx.now c.args.root c.args.level c.args.key.now c.args.value.now c.requires.root c.put_below.new.ctx c.in_err-put_below.field-0.0 c.in_err-put_below.ensures.puts)

pub returns-in_err-put_below-clause-way : goal.returns-in_err-put_below-clause-way
returns-in_err-put_below-clause-way c =
    let p = err_from_is_err_and c.from_residual.result c.from_residual.ensures.1 in
    rw (p.1, p.2) (root_way Put Bool c.args.ctx.now c.args.root c.args.level c.args.key.now c.in_err-put_below.field-0.0 c.requires.root c.in_err-put_below.ensures.way)

pub returns-in-Kept-clause-puts : goal.returns-in-Kept-clause-puts
returns-in-Kept-clause-puts c =
    stands_inserts c.args.stands c.args.ctx.now c.args.root c.args.level c.args.key.now c.args.value.now c.requires.root c.put_below.new.ctx
    (λ P low high place. subst (λ put. PutsAt c.args.stands c.args.ctx.now c.put_below.new.ctx c.args.level c.args.root c.args.key.now c.args.value.now P low high (Ok put)) c.in-Kept.is (c.in_ok-put_below.ensures.puts P low high place))

pub returns-in-Done-clause-puts : goal.returns-in-Done-clause-puts
returns-in-Done-clause-puts c =
    done_inserts c.args.stands c.args.ctx.now c.args.root c.args.level c.args.key.now c.args.value.now c.requires.root c.put_below.new.ctx
    (λ P low high place. subst (λ put. PutsAt c.args.stands c.args.ctx.now c.put_below.new.ctx c.args.level c.args.root c.args.key.now c.args.value.now P low high (Ok put)) c.in-Done.is (c.in_ok-put_below.ensures.puts P low high place))

pub returns-in_err-grow-in-Split-clause-puts : goal.returns-in_err-grow-in-Split-clause-puts
returns-in_err-grow-in-Split-clause-puts c =
    let p = err_from_is_err_and c.from_residual-in_err-grow-in-Split.result c.from_residual-in_err-grow-in-Split.ensures.1 in
    let puts : OverPlaces c.args.ctx.now c.args.level c.args.root c.args.key.now (λ P low high. PutsAt c.args.stands c.args.ctx.now c.put_below.new.ctx c.args.level c.args.root c.args.key.now c.args.value.now P low high (Ok (Split c.as_slice.result.now c.in-Split.next))) =
    (λ P low high place. subst (λ b. PutsAt c.args.stands c.args.ctx.now c.put_below.new.ctx c.args.level c.args.root c.args.key.now c.args.value.now P low high (Ok (Split b c.in-Split.next))) (sym c.as_slice.ensures)
    (subst (λ put. PutsAt c.args.stands c.args.ctx.now c.put_below.new.ctx c.args.level c.args.root c.args.key.now c.args.value.now P low high (Ok put)) c.in-Split.is (c.in_ok-put_below.ensures.puts P low high place))) in
    rw (p.1, p.2)
    (grow_inserts c.args.stands c.args.ctx.now c.args.root c.args.level c.args.key.now c.args.value.now c.requires.root c.put_below.new.ctx c.grow.new.ctx c.as_slice.result.now c.in-Split.next c.in_err-grow-in-Split.field-0.0 puts
    c.in_err-grow-in-Split.ensures.grows)

pub returns-in_ok-grow-in-Split-clause-puts : goal.returns-in_ok-grow-in-Split-clause-puts
returns-in_ok-grow-in-Split-clause-puts c =
    let puts : OverPlaces c.args.ctx.now c.args.level c.args.root c.args.key.now (λ P low high. PutsAt c.args.stands c.args.ctx.now c.put_below.new.ctx c.args.level c.args.root c.args.key.now c.args.value.now P low high (Ok (Split c.as_slice.result.now c.in-Split.next))) =
    (λ P low high place. subst (λ b. PutsAt c.args.stands c.args.ctx.now c.put_below.new.ctx c.args.level c.args.root c.args.key.now c.args.value.now P low high (Ok (Split b c.in-Split.next))) (sym c.as_slice.ensures)
    (subst (λ put. PutsAt c.args.stands c.args.ctx.now c.put_below.new.ctx c.args.level c.args.root c.args.key.now c.args.value.now P low high (Ok put)) c.in-Split.is (c.in_ok-put_below.ensures.puts P low high place))) in
    split_inserts c.args.stands c.args.ctx.now c.args.root c.args.level c.args.key.now c.args.value.now c.requires.root c.put_below.new.ctx c.grow.new.ctx c.as_slice.result.now c.in-Split.next c.in_ok-put_below.ensures.given puts
    c.in_ok-grow-in-Split.ensures.grows.0 c.in_ok-grow-in-Split.ensures.grows.1

-- ---- where a fresh page is asked for
pub returns-in_err-put_below-clause-room : goal.returns-in_err-put_below-clause-room
returns-in_err-put_below-clause-room c =
    let p = err_from_is_err_and c.from_residual.result c.from_residual.ensures.1 in
    rw (p.1, p.2) (stop_asks c.args.ctx.now c.args.root c.args.level c.requires.root Bool c.put_below.new.ctx c.in_err-put_below.field-0.0 c.in_err-put_below.ensures.room)

pub returns-in_err-grow-in-Split-clause-room : goal.returns-in_err-grow-in-Split-clause-room
returns-in_err-grow-in-Split-clause-room c =
    let p = err_from_is_err_and c.from_residual-in_err-grow-in-Split.result c.from_residual-in_err-grow-in-Split.ensures.1 in
    rw (p.1, p.2)
    (grow_asks c.args.ctx.now c.args.root c.args.level c.requires.root Bool c.put_below.new.ctx c.grow.new.ctx c.in_ok-put_below.field-0 c.in-Split.bound c.in-Split.next c.in_err-grow-in-Split.field-0.0 c.in-Split.is c.in_ok-put_below.ensures.room c.in_err-grow-in-Split.ensures.takes)
