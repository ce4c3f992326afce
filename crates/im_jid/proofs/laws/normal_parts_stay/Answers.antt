use Rattle.im_jid.proofs.PartForms.{domain_form_again, domain_form_ok, local_form_again, local_form_ok, resource_form_again, resource_form_ok}
use Rattle.im_jid.proofs.laws.normal_parts_stay.Goals as goal

pub returns-clause-local : goal.returns-clause-local
returns-clause-local c given out is = local_form_again out (local_form_ok given out is)

pub returns-clause-domain : goal.returns-clause-domain
returns-clause-domain c given out is = domain_form_again out (domain_form_ok given out is)

pub returns-clause-resource : goal.returns-clause-resource
returns-clause-resource c given out utf8 is = resource_form_again out (resource_form_ok given out utf8 is)
