use Rattle.kt_words.proofs.Powers.{capacity_fills}
use Rattle.kt_words.proofs.geometry.Geometry.cap.Goals as goal

pub returns-clause-whole : goal.returns-clause-whole
returns-clause-whole c = (capacity_fills c.args.self.now.units c.args.class c.args.self.now.units_fit c.args.self.now.power_of_two c.requires).0

pub returns-clause-room : goal.returns-clause-room
returns-clause-room c =
    let fills = capacity_fills c.args.self.now.units c.args.class c.args.self.now.units_fit c.args.self.now.power_of_two c.requires in
    (fills.1, fills.2)
