-- What is proved of captures and of the list that one makes: what each place of the list holds and which box it reaches, that it is in the
-- order of the stamps and never has a finish of nothing, and captures worked from the definitions.
pub mod Listing
pub mod Whole
pub mod Worked
