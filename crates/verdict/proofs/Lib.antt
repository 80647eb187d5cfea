mod Within
mod Answered
