use Rattle.std.proofs.Common.{◌≡◌, ◌+◌, ◌-◌, refl, arith}
use Rattle.std.proofs.lemmas.Bool.{both_ways}
use Rattle.sb_log.proofs.FieldLemmas.{are_bytes}
use Rattle.sb_log.proofs.RecordLemmas.{Change-none, Change-begins}
use Rattle.sb_log.proofs.reading.change_of.Goals as goal
use Rattle.sb_log.proofs.reading.change_of.Goals.{then-not-is_in_page-via-then-not-is_in_page, then-not-is_in_page-via-else-not-is_in_page+then-rest-end}

pub returns-then-not-is_in_page : goal.returns-then-not-is_in_page
returns-then-not-is_in_page c =
    let rest = c.args.rest.now in
    Change-none rest c.get_u16-offset.result c.get_u16-len.result c.get_u16-offset.ensures c.get_u16-len.ensures
    (elim c.then-not-is_in_page.branch [
      | then-not-is_in_page-via-then-not-is_in_page w ↦ λ fits long. both_ways c.is_in_page.result w.if-not-is_in_page.true (c.is_in_page.ensures.1 fits)
      | then-not-is_in_page-via-else-not-is_in_page+then-rest-end w ↦ λ fits long. omega (arith, w.if-rest-end, long)
    ])

pub returns : goal.returns
returns c =
    let rest = c.args.rest.now in
    let len = c.get_u16-len.result in
    let fits = c.if-not-is_in_page.ensures.0 refl in
    let before : 14 + len - 14 ≡ len = omega arith in
    let after : 14 + len + len - (14 + len) ≡ len = omega arith in
    rw (before, after)
    (Change-begins rest c.get_u32.result c.get_u16.result c.get_u32-2.result c.get_u16-offset.result len
    (are_bytes rest (λ i. omega (arith, c.type_inv.rest i)))
    (omega (arith, c.if-rest-end.false)) fits.0 fits.1
    (omega (arith, c.get_u32.type_inv)) (omega (arith, c.get_u16.type_inv)) (omega (arith, c.get_u32-2.type_inv))
    c.get_u32.ensures c.get_u16.ensures c.get_u32-2.ensures c.get_u16-offset.ensures c.get_u16-len.ensures)
