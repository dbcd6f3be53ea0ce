use Rattle.std.proofs.Common.{◌*◌, ◌/◌, ◌%◌, ℕ, List, Err, sym, ap, subst, ◌∙◌, arith}
use Rattle.sb_bytes.specs.Field.{number_at}
use Rattle.sb_txn.specs.Parts.{parts}
use Rattle.sb_space.specs.Opening.{Looks}
use Rattle.sb_space.proofs.Lookups.{Looks-err, Looks-ok, table-now}
use Rattle.sb_space.proofs.opening.owner_of.Goals as goal

pub returns-in-Ok-clause-owner : goal.returns-in-Ok-clause-owner
returns-in-Ok-clause-owner g c = λ want now stands.
    let told = g.D.Disk.told in
    let len = g.D.Disk.len in
    let n = c.args.n in
    let call = c.in-Ok.ensures in
    let less = c.requires.page in
    let table = table-now want now (parts told len c.args.disk.now c.args.store.now) (parts told len c.load.new.disk c.load.new.self) (n / 2048) _ stands call.loads call.any_moment call.keeps.geometry (omega (arith, less)) c.held.ensures.bytes in
    c.get_u16.ensures ∙ ap (λ (bytes : List ℕ). number_at 2 bytes (2 * (n % 2048))) table

pub returns-in-Ok-clause-looks : goal.returns-in-Ok-clause-looks
returns-in-Ok-clause-looks g c =
    let call = c.in-Ok.ensures in
    Looks-ok g.D.Disk.told g.D.Disk.len g.D.Disk.faults c.args.disk.now c.load.new.disk c.args.store.now c.load.new.self call.any_moment (tt {0}) _ call.keeps call.loads

pub returns-in-Err-clause-looks : goal.returns-in-Err-clause-looks
returns-in-Err-clause-looks g c =
    let told = g.D.Disk.told in
    let len = g.D.Disk.len in
    let faults = g.D.Disk.faults in
    let call = c.in-Err.ensures in
    let d = c.args.disk.now in
    let e = c.load.new.disk in
    let s = c.args.store.now in
    let t = c.load.new.self in
    subst (λ x. Looks {T = ℕ} told len faults d e s t (Err x)) (sym c.fault_of.ensures) (Looks-err told len faults d e s t call.any_moment (Unit {0}) ℕ c.in-Err.fault call.err call.keeps)
