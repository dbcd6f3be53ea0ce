use Rattle.sb_printer.proofs.Joined.{joined_whole}
use Rattle.sb_printer.proofs.lists.append_joined.Goals as goal

pub returns-clause-ok : goal.returns-clause-ok
returns-clause-ok g c =
    joined_whole c.append_more.result c.args.out.now c.append.new.out c.append_more.new.out c.args.between.now g.T.Print.text c.args.items.now c.in-Some.others.now c.in-Some.first.now
    c.in-Some.ensures.cases.0 c.in_ok-append.ensures.ok c.append_more.ensures.ok
