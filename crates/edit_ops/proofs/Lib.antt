mod Adding
mod Changing
mod MembersStay
mod Places
mod Refusing
mod Renumbering
mod Slots
mod Stays
