use Rattle.sb_bytes.proofs.Part.{put_mid-field}
use Rattle.sb_bytes.proofs.field.put_u16.Goals as goal

pub returns : goal.returns
returns c = put_mid-field c.args.at 2 c.args.v c.args.b.now c.write_u16.new.buf c.write_u16.ensures
