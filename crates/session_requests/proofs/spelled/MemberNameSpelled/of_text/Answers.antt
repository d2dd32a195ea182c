use Rattle.std.proofs.Common.{◌≡◌, rules}
use Rattle.cfj_model.specs.Sites.{site_text, IsPath}
use Rattle.session_requests.proofs.SitePaths.{no_member_of}
use Rattle.session_requests.proofs.spelled.MemberNameSpelled.of_text.Goals as goal

pub returns-in-Some-clause-none : goal.returns-in-Some-clause-none
returns-in-Some-clause-none c =
    let found : (site_text c.in-Some.site ≡ c.args.text.now) × IsPath c.in-Some.site = search rules in
    no_member_of c.args.text.now c.utf8.text c.in-Some.site c.member_of.result found.0 found.1 c.member_of.ensures
