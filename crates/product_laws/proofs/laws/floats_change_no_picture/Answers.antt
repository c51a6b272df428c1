use Rattle.product_laws.proofs.Pictures as pictures
use Rattle.product_laws.proofs.laws.floats_change_no_picture.Goals as goal

pub returns-clause-pictures : goal.returns-clause-pictures
returns-clause-pictures c = pictures.pictures_stay c.documents_stay.ensures.meanings

pub returns-clause-planned : goal.returns-clause-planned
returns-clause-planned c = pictures.planned_pictures_stay c.documents_stay.ensures.meanings

pub returns-clause-ramps : goal.returns-clause-ramps
returns-clause-ramps c = pictures.ramp_pictures_stay c.documents_stay.ensures.meanings

pub returns-clause-remarks : goal.returns-clause-remarks
returns-clause-remarks c = pictures.picture_remarks c.documents_stay.ensures.meanings

pub returns-clause-planned_remarks : goal.returns-clause-planned_remarks
returns-clause-planned_remarks c = pictures.planned_remarks c.documents_stay.ensures.meanings
