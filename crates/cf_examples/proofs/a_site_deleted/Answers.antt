use Rattle.cf_examples.proofs.Site.{legal, shows_site, shows_user, shows_site_gone, shows_user_gone, refused_0, refused_1, refused_2}
use Rattle.cf_examples.proofs.a_site_deleted.Goals as goal

pub returns-clause-legal : goal.returns-clause-legal
returns-clause-legal c = legal

pub returns-clause-shows_site : goal.returns-clause-shows_site
returns-clause-shows_site c = shows_site

pub returns-clause-shows_user : goal.returns-clause-shows_user
returns-clause-shows_user c = shows_user

pub returns-clause-shows_site_gone : goal.returns-clause-shows_site_gone
returns-clause-shows_site_gone c = shows_site_gone

pub returns-clause-shows_user_gone : goal.returns-clause-shows_user_gone
returns-clause-shows_user_gone c = shows_user_gone

pub returns-clause-deleted_while_used : goal.returns-clause-deleted_while_used
returns-clause-deleted_while_used c = refused_0

pub returns-clause-needed_deleted_first : goal.returns-clause-needed_deleted_first
returns-clause-needed_deleted_first c = refused_1

pub returns-clause-retained_deleted : goal.returns-clause-retained_deleted
returns-clause-retained_deleted c = refused_2
