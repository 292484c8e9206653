use Rattle.std.proofs.Common.{◌≡◌, ◌∙◌, ◌||◌, false, [], Some, sym, subst}
use Rattle.std.specs.Prelude.{is_some}
use Rattle.cf_tree.specs.Keys.{value_at}
use Rattle.cf_tree.specs.declared.request.Request.{Request}
use Rattle.cf_tree.specs.declared.request.Request.TheVariants as request
use Rattle.cf_answers.specs.Noted.{first_text}
use Rattle.cf_answers.specs.Table.{answer_to}
use Rattle.cf_answers.proofs.Free.{free_answer, is_not}
use Rattle.cf_answers.proofs.noted.Noted.is_new.Goals as goal

pub returns-in-Some : goal.returns-in-Some
returns-in-Some c =
    λ t live k name token.
    let g = c.args.schema.now in
    let text = c.in-Some.text.now in
    let asked : c.args.request.now ≡ request.Create c.in-Create.kind c.in-Create.props = cc in
    let first : first_text g.create_only c.in-Create.props ≡ Some text = sym c.in-Some.ensures in
    let no : (c.args.self.now.others || is_some (value_at text c.args.self.now.texts)) ≡ false = sym c.has.ensures ∙ is_not c.has.result t in
    subst (λ (r : Request). answer_to g name token [] r ≡ answer_to g name token live r) (sym asked)
    (free_answer g c.args.self.now name token c.in-Create.props text live first no k)
