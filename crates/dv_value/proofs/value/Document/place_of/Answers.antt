use Rattle.std.proofs.Common.{◌≡◌, rules}
use Rattle.dv_value.specs.Names.{place_under}
use Rattle.dv_value.proofs.Overlaid.{place_inside, place_shows}
use Rattle.dv_value.proofs.value.Document.place_of.Goals as goal

pub returns-in-Own-clause-within : goal.returns-in-Own-clause-within
returns-in-Own-clause-within c =
    let found : c.place_of.result ≡ place_under c.args.name.now c.args.self.now = search rules in
    place_inside c.args.name.now c.args.self.now c.place_of.result found

pub returns-in-Own-clause-value : goal.returns-in-Own-clause-value
returns-in-Own-clause-value c =
    let found : c.place_of.result ≡ place_under c.args.name.now c.args.self.now = search rules in
    place_shows c.args.name.now c.args.self.now c.place_of.result found

pub returns-in-Over-clause-within : goal.returns-in-Over-clause-within
returns-in-Over-clause-within c =
    let found : c.place_named.result ≡ place_under c.args.name.now c.args.self.now = search rules in
    place_inside c.args.name.now c.args.self.now c.place_named.result found

pub returns-in-Over-clause-value : goal.returns-in-Over-clause-value
returns-in-Over-clause-value c =
    let found : c.place_named.result ≡ place_under c.args.name.now c.args.self.now = search rules in
    place_shows c.args.name.now c.args.self.now c.place_named.result found
